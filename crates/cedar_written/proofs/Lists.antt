-- The lists of the written grammar, their trees and their documents.
use Rattle.std.proofs.Common.{◌≡◌, ℕ, ℤ, pos, suc, ◌≤◌, Bool, true, false, ◌&&◌, List, [], ◌∷◌, ◌++◌, length, map, refl, ap, arith, sym, ◌∙◌, subst, append-nil}
use Rattle.cedar_tokens.specs.Listing.{Decorated}
use Rattle.cedar_tokens.specs.PlainList.{plain_list}
use Rattle.cedar_tokens.specs.declared.kind.Kind.{Kind}
use Rattle.cedar_tokens.specs.declared.kind.Kind.TheVariants as K
use Rattle.cedar_tokens.specs.Kinds.{is, is_closing, begins}
use Rattle.cedar_tokens.specs.TokenKinds.{kind_of, other_kind}
use Rattle.cedar_layout.specs.Layout.{Doc}
use Rattle.cedar_grammar.specs.Trees.{Label, Forest, none, branch, join, yield}
use Rattle.cedar_grammar.specs.Languages.{Many, no_more, one_more}
use Rattle.cedar_grammar.specs.Grammar as Gr
use Rattle.cedar_grammar.specs.Grammar.{IsSyntaxTree}
use Rattle.cedar_grammar.specs.KindGrammar.{G}
use Rattle.cedar_grammar.specs.Laws.{kind_of_decorated, AreTokens}
use Rattle.cedar_grammar.specs.TrailingCommas.{drop_if, plain}
use Rattle.cedar_grammar.specs.TypedTrees.{Clause, policy, set_tree}
use Rattle.cedar_grammar.specs.Reader.Reading.{Answer, done, stuck}
use Rattle.cedar_grammar.specs.Reader.Lines.{set_to}
use Rattle.cedar_grammar.proofs.Rules.Maps.{each, relabel, answer_of, set_agrees}
use Rattle.cedar_grammar.proofs.Trees.Relabelling.{each_map, relabel_yield, relabelled}
use Rattle.cedar_grammar.proofs.WholeLaws.{set_complete, set_sound}
use Rattle.cedar_grammar.proofs.Trees.Laws.{list_has_one_tree, typed_tree_is_unique, typed_leaves_agree}
use Rattle.cedar_grammar.proofs.Texts.Grammars.{grammars_agree, texts_are_tokens}
use Rattle.cedar_grammar.proofs.Texts.Kinds.{comma_agrees, closing_agrees, plain_texts_agree}
use Rattle.cedar_laws.specs.Leaves.{part_map}
use Rattle.cedar_laws.specs.Table.{part_table, literal_kind}
use Rattle.cedar_laws.proofs.Relabelled.{set_tree_map}
use Rattle.cedar_written.specs.Written.{PolicySet, no_policy, a_policy}
use Rattle.cedar_written.specs.Texts.{without_comments, InGrammar}
use Rattle.cedar_written.specs.Laws.{ListsAgree, GrammarsAgree, DocumentsAreTheTables, TablesAreDocuments, DocumentsAreUnique}
use Rattle.cedar_written.proofs.SameRows.{texts, text, parts, whole}
use Rattle.cedar_written.proofs.GrammarRows as rows
use Rattle.cedar_written.proofs.Reading.{Plain, first_closes}
use Rattle.cedar_written.proofs.FirstTokens.{same_forest}
use Rattle.cedar_written.proofs.ReadPolicies as read

abbrev text_of : Decorated → List ℕ
text_of t = t.text

-- ---- a list has documents if and only if its texts have a tree

module _ (i : ℤ) (n : ℕ) where
  some_documents : (f : Forest Label (List ℕ)) (ts : List Decorated) → Many (Gr.Policy text n) f
      → texts ts ≡ yield f → (ds : List Doc) × PolicySet i n ts ds
  some_documents f ts (no_more _ e) s = go ts (s ∙ ap yield e)
    where
      go : (ts : List Decorated) → texts ts ≡ [] → (ds : List Doc) × PolicySet i n ts ds
      go [] e = ([], no_policy)
      go (t ∷ ts) e = absurd cc
  some_documents f ts (one_more _ g h e y m) s =
      let c = parts ts f g h e s in
      let a = (rows.policy i n).some g c.0 y c.3 in
      let b = some_documents h c.1 m c.4 in (
        a.0 ∷ b.0,
        subst (λ z. PolicySet i n z (a.0 ∷ b.0)) (sym c.2)
            (a_policy c.0 c.1 a.0 b.0 a.1 b.1),
      )

  some_tree : (ts : List Decorated) (ds : List Doc) → PolicySet i n ts ds
      → (f : Forest Label (List ℕ)) × Many (Gr.Policy text n) f × (texts ts ≡ yield f)
  some_tree _ _ no_policy = (none, no_more none refl, refl)
  some_tree _ _ (a_policy ts us d ds y m) =
      let a = (rows.policy i n).back ts d y in
      let b = some_tree us ds m in (
        join a.0 b.0,
        one_more _ a.0 b.0 refl a.1 b.1,
        whole (ts ++ us) ts us a.0 b.0 refl a.2 b.2,
      )

  texts_tree : (ts : List Decorated) (ds : List Doc) → PolicySet i n ts ds
      → (f : Forest Label (List ℕ)) × IsSyntaxTree (λ t. t) n f (texts ts)
  texts_tree ts ds w =
      let r = some_tree ts ds w in (
        branch Label.policies r.0 none,
        record { shape = (r.0, refl, r.1); leaves = append-nil (yield r.0) ∙ sym r.2 },
      )

  texts_documents : (ts : List Decorated) (f : Forest Label (List ℕ))
      → IsSyntaxTree (λ t. t) n f (texts ts) → (ds : List Doc) × PolicySet i n ts ds
  texts_documents ts f g =
      let s = g.shape in
      some_documents s.0 ts s.2 (sym g.leaves ∙ (ap yield s.1 ∙ append-nil (yield s.0)))

pub grammars_agree_in_texts : GrammarsAgree
grammars_agree_in_texts n us = (there, back)
  where
    same : (us : List (List ℕ)) → texts (map without_comments us) ≡ us
    same [] = refl
    same (u ∷ us) = ap (λ z. u ∷ z) (same us)

    there : InGrammar n us → (f : Forest Label (List ℕ)) × IsSyntaxTree (λ t. t) n f us
    there (ds, w) =
        let r = texts_tree (pos 0) n (map without_comments us) ds w in
        (r.0, subst (IsSyntaxTree (λ t. t) n r.0) (same us) r.1)

    back : (f : Forest Label (List ℕ)) × IsSyntaxTree (λ t. t) n f us → InGrammar n us
    back (f, g) = texts_documents (pos 0) n (map without_comments us) f
        (subst (IsSyntaxTree (λ t. t) n f) (sym (same us)) g)

-- ---- trees over texts and trees over tokens

texts_all : (ts : List Decorated) → AreTokens text_of ts → AreTokens text (texts ts)
texts_all [] a = tt
texts_all (t ∷ ts) a = (a.0, texts_all ts a.1)

tokens_all : (ts : List Decorated) → AreTokens text (texts ts) → AreTokens text_of ts
tokens_all [] a = tt
tokens_all (t ∷ ts) a = (a.0, tokens_all ts a.1)

-- the tree over texts of a tree over tokens
over_texts : (n : ℕ) (ts : List Decorated) (f : Forest Label Decorated)
    → IsSyntaxTree text_of n f ts → IsSyntaxTree text n (relabel text_of f) (texts ts)
over_texts n ts f g =
    let all = texts_are_tokens text_of n ts f g in
    let k = relabelled text_of kind_of_decorated kind_of (λ t. refl) n f ts
    ((grammars_agree text_of n ts f all).0 g) in
    (grammars_agree text n (texts ts) (relabel text_of f) (texts_all ts all)).1
    (subst (G kind_of n (relabel text_of f)) (each_map text_of ts) k)

-- and the tree over tokens of a tree over their texts
over_tokens : (n : ℕ) (ts : List Decorated) (f : Forest Label (List ℕ))
    → IsSyntaxTree text n f (texts ts)
    → (g : Forest Label Decorated) × IsSyntaxTree text_of n g ts × (relabel text_of g ≡ f)
over_tokens n ts f g = go (set_to kind_of_decorated n ts) refl (sym agrees ∙ reads)
  where
    all : AreTokens text (texts ts)
    all = texts_are_tokens text n (texts ts) f g

    k : G kind_of n f (texts ts)
    k = (grammars_agree text n (texts ts) f all).0 g

    reads : set_to kind_of n (each text_of ts) ≡ done f []
    reads = ap (set_to kind_of n) (each_map text_of ts ∙ sym k.leaves)
        ∙ set_complete kind_of n f k.shape

    agrees : set_to kind_of n (each text_of ts) ≡ answer_of text_of (set_to kind_of_decorated n ts)
    agrees = set_agrees text_of kind_of_decorated kind_of (λ t. refl) n ts

    go : (a : Answer Decorated) → set_to kind_of_decorated n ts ≡ a
        → answer_of text_of a ≡ done f []
        → (g : Forest Label Decorated) × IsSyntaxTree text_of n g ts × (relabel text_of g ≡ f)
    go (stuck b r) e q = absurd cc
    go (done g (a ∷ r)) e q = absurd cc
    go (done g []) e q =
        let s = set_sound kind_of_decorated n ts g [] e in
        let l : yield g ≡ ts = sym (s.tokens ∙ append-nil (yield g)) in
        let r : relabel text_of g ≡ f = cc in (
          g,
          (grammars_agree text_of n ts g (tokens_all ts all)).1
              (record { shape = s.among; leaves = l }),
          r,
        )

pub lists_agree : ListsAgree
lists_agree i n ts = (there, back)
  where
    there : (ds : List Doc) × PolicySet i n ts ds
        → (f : Forest Label Decorated) × IsSyntaxTree text_of n f ts
    there (ds, w) =
        let r = texts_tree i n ts ds w in
        let g = over_tokens n ts r.0 r.1 in
        (g.0, g.1)

    back : (f : Forest Label Decorated) × IsSyntaxTree text_of n f ts
        → (ds : List Doc) × PolicySet i n ts ds
    back (f, g) = texts_documents i n ts (relabel text_of f) (over_texts n ts f g)

-- ---- lists without trailing commas

module _ {A : Type 0} (kind : A → Kind) where
  plain_shorter : (ts : List A) → length (plain kind ts) ≤ length ts
  plain_shorter [] = omega arith
  plain_shorter (a ∷ ts) = go (is K.Comma (kind a) && begins kind is_closing ts) (plain_shorter ts)
    where
      go : (b : Bool) → length (plain kind ts) ≤ length ts
          → length (drop_if b (a ∷ plain kind ts) (plain kind ts)) ≤ suc (length ts)
      go true h = omega (arith, h)
      go false h = omega (arith, h)

  plain_tail : (a : A) (ts : List A) → plain kind (a ∷ ts) ≡ a ∷ ts
      → (plain kind ts ≡ ts) × ((is K.Comma (kind a) && begins kind is_closing ts) ≡ false)
  plain_tail a ts e =
      go (is K.Comma (kind a) && begins kind is_closing ts) refl e (plain_shorter ts)
    where
      go : (b : Bool) → (is K.Comma (kind a) && begins kind is_closing ts) ≡ b
          → drop_if b (a ∷ plain kind ts) (plain kind ts) ≡ a ∷ ts
          → length (plain kind ts) ≤ length ts
          → (plain kind ts ≡ ts) × ((is K.Comma (kind a) && begins kind is_closing ts) ≡ false)
      go true f h l = absurd (let n = ap length h in omega (arith, n, l))
      go false f h l = (cc, f)

no_trailing : (ts : List Decorated) → plain kind_of (texts ts) ≡ texts ts → Plain false ts
no_trailing [] e = tt
no_trailing (a ∷ ts) e =
    let q = plain_tail kind_of a.text (texts ts) e in (
      ap (λ z. z && first_closes false ts) (sym (comma_agrees a.text))
          ∙ (ap (λ z. is K.Comma (kind_of a.text) && z) (closes ts) ∙ q.1),
      no_trailing ts q.0,
    )
  where
    closes : (ts : List Decorated) → first_closes false ts ≡ begins kind_of is_closing (texts ts)
    closes [] = refl
    closes (t ∷ ts) = sym (closing_agrees t.text)

is_plain : (ts : List Decorated) → plain_list ts ≡ ts → Plain false ts
is_plain ts e = no_trailing ts (sym (plain_texts_agree ts) ∙ ap texts e)

-- ---- their documents are those of the table

set_texts : (ps : List (Clause Decorated policy))
    → relabel text_of (set_tree literal_kind ps) ≡ set_tree other_kind (map (part_map text_of) ps)
set_texts ps = set_tree_map text_of literal_kind other_kind (λ t. refl) ps

pub documents_are_the_tables : DocumentsAreTheTables
documents_are_the_tables i n ts ds e w =
    let k = read.set i n false ts ds (is_plain ts e) w in
    let fs = set_tree other_kind (map (part_map text_of) k.0) in
    let leaves : yield fs ≡ texts ts = ap yield (sym (set_texts k.0))
    ∙ (relabel_yield text_of (set_tree literal_kind k.0)
    ∙ (each_map text_of (yield (set_tree literal_kind k.0))
    ∙ ap texts (typed_leaves_agree literal_kind k.0 ∙ sym k.1))) in
    let g = over_tokens n ts fs
    (record { shape = (read.policy_forests i k.0, refl, k.3); leaves = leaves }) in
    let same : g.0 ≡ set_tree literal_kind k.0 = same_forest text_of g.0 (set_tree literal_kind k.0)
    (g.2 ∙ sym (set_texts k.0))
    (g.1.leaves ∙ (k.1 ∙ sym (typed_leaves_agree literal_kind k.0))) in
    (k.0, subst (λ z. IsSyntaxTree text_of n z ts) same g.1, k.2)

-- a list is the leaves of one row of policies
same_policies : (m n : ℕ) (ts : List Decorated) (ps qs : List (Clause Decorated policy))
    → IsSyntaxTree text_of m (set_tree literal_kind ps) ts
    → IsSyntaxTree text_of n (set_tree literal_kind qs) ts → ps ≡ qs
same_policies m n ts ps qs g h =
    let all = texts_are_tokens text_of m ts (set_tree literal_kind ps) g in
    typed_tree_is_unique literal_kind ps qs (list_has_one_tree kind_of_decorated m n ts
    (set_tree literal_kind ps) (set_tree literal_kind qs)
    ((grammars_agree text_of m ts (set_tree literal_kind ps) all).0 g)
    ((grammars_agree text_of n ts (set_tree literal_kind qs) all).0 h))

pub tables_are_documents : TablesAreDocuments
tables_are_documents i n ts ps e g =
    let d = (lists_agree i n ts).1 (set_tree literal_kind ps, g) in
    let q = documents_are_the_tables i n ts d.0 e d.1 in
    subst (PolicySet i n ts)
    (q.2 ∙ ap (map (part_table i)) (same_policies n n ts q.0 ps q.1 g)) d.1

pub documents_are_unique : DocumentsAreUnique
documents_are_unique i m n ts ds es e v w =
    let q = documents_are_the_tables i m ts ds e v in
    let r = documents_are_the_tables i n ts es e w in
    q.2 ∙ (ap (map (part_table i)) (same_policies m n ts q.0 r.0 q.1 r.1) ∙ sym r.2)
