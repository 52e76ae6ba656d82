-- Trees of the written grammar with decorated leaves:
-- one per list, kept by equal numbers, and one for every accepted text.
use Rattle.std.proofs.Common.{◌≡◌, ℕ, ℤ, suc, ◌≤◌, Bool, true, false, cond, ◌&&◌, List, [], ◌∷◌, length, map, refl, ap, arith, sym, ◌∙◌, subst}
use Rattle.cedar_tokens.specs.Units.{is_number, is_token, IsToken}
use Rattle.cedar_tokens.specs.Listing.{Decorated, Listing, IsListing, token_value, without_zeros}
use Rattle.cedar_tokens.specs.PlainList.{plain_list, plain_from}
use Rattle.cedar_tokens.proofs.Scanning.{split_unique}
use Rattle.cedar_tokens.specs.declared.kind.Kind.{Kind}
use Rattle.cedar_tokens.specs.declared.kind.Kind.TheVariants as K
use Rattle.cedar_tokens.specs.Kinds.{is, is_closing, begins}
use Rattle.cedar_tokens.specs.TokenKinds.{kind_of}
use Rattle.cedar_grammar.specs.Trees.{Label, Forest, yield}
use Rattle.cedar_grammar.specs.Grammar.{IsSyntaxTree}
use Rattle.cedar_grammar.specs.KindGrammar.{G, PolicySet}
use Rattle.cedar_grammar.specs.Laws.{kind_of_decorated}
use Rattle.cedar_grammar.specs.Texts.{greatest_depth, only_tokens, Accepted}
use Rattle.cedar_grammar.specs.TrailingCommas.{drop_if, plain, without_trailing}
use Rattle.cedar_grammar.specs.TypedTrees.{Clause, policy, set_tree}
use Rattle.cedar_grammar.specs.Reader.Reading.{Answer, done, stuck}
use Rattle.cedar_grammar.specs.Reader.Lines.{set_to}
use Rattle.cedar_grammar.proofs.Texts.Accepted.{kinds_of}
use Rattle.cedar_grammar.proofs.Texts.Grammars.{grammars_agree, texts_are_tokens}
use Rattle.cedar_grammar.proofs.Typed.SameLabels.{sets_agree, label_of_first_byte}
use Rattle.cedar_grammar.proofs.Rules.Maps.{each, relabel, answer_of, set_agrees}
use Rattle.cedar_grammar.proofs.WholeLaws.{set_complete}
use Rattle.cedar_grammar.proofs.Trees.Laws.{list_has_one_tree, leaves_are_plain, typed_tree_is_unique, typed_leaves_agree}
use Rattle.cedar_grammar.proofs.Texts.Kinds.{number_kind, trailing_agrees, plain_texts_agree}
use Rattle.cedar_grammar.proofs.Trees.Relabelling.{relabelled, plain_each, each_map, without_relabel}
use Rattle.cedar_grammar.proofs.Texts.Listings.{listing_texts}
use Rattle.cedar_laws.specs.Leaves.{part_map}
use Rattle.cedar_laws.specs.Table.{literal_kind}
use Rattle.cedar_laws.specs.Output.{with_value, tokens_of}
use Rattle.cedar_laws.specs.Canonical.{IsOutputOf}
use Rattle.cedar_laws.specs.GrammarTrees.{IsTree, AcceptedHasTree, ListHasOneTree, TreeFits}
use Rattle.cedar_laws.proofs.Listed.{number_value, value_token}
use Rattle.cedar_laws.proofs.ByValue.{tokens_map}
use Rattle.cedar_laws.proofs.FittingTrees.{AllTokens, policies_fit}
use Rattle.cedar_grammar.proofs.Typed.FittingLeaves.{PartFits}
use Rattle.cedar_grammar.proofs.Typed.Policies.{typed_set}
use Rattle.cedar_laws.specs.Good.{IsGood}
use Rattle.std.specs.List.{AllByRecursion}
use Rattle.cedar_grammar.proofs.Plain.Grammar.{plain_is_in_the_grammar}
use Rattle.cedar_grammar.proofs.Plain.CommaPairs.{plain_is_plain}
use Rattle.cedar_laws.proofs.Relabelled.{set_tree_map}
use Rattle.cedar_grammar.proofs.Typed.PlainLists.{policies_of}

-- ---- kinds of values

pub value_kind : (u : List ℕ) → kind_of (token_value u) ≡ kind_of u
value_kind u = go (is_number u) refl
  where
    numbered : (u : List ℕ) → is_number u ≡ true → kind_of (without_zeros u) ≡ kind_of u
    numbered [] h = absurd cc
    numbered (b ∷ bs) h =
        number_kind (without_zeros (b ∷ bs)) (number_value b bs h) ∙ sym (number_kind (b ∷ bs) h)

    go : (t : Bool) → is_number u ≡ t → kind_of (cond t (without_zeros u) u) ≡ kind_of u
    go true e = numbered u e
    go false e = refl

-- ---- trees

pub one_tree : ListHasOneTree
one_tree ps qs a b e =
    typed_tree_is_unique kind_of_decorated ps qs
    (list_has_one_tree kind_of_decorated greatest_depth greatest_depth (tokens_of qs)
    (set_tree kind_of_decorated ps) (set_tree kind_of_decorated qs)
    (subst (λ z. G kind_of_decorated greatest_depth (set_tree kind_of_decorated ps) z) e a.grammar)
    b.grammar)

values_tokens : (ts : List Decorated) → AllTokens ts → AllTokens (map with_value ts)
values_tokens [] a = tt
values_tokens (t ∷ ts) a = (value_token t.text a.0, values_tokens ts a.1)

pub value_tree : (ps : List (Clause Decorated policy)) → IsTree ps
    → IsTree (map (part_map with_value) ps)
value_tree ps a =
    let same : (d : Decorated) → kind_of_decorated (with_value d) ≡ kind_of_decorated d =
    λ d. value_kind d.text in
    let t = set_tree_map with_value kind_of_decorated kind_of_decorated same ps in
    let g = relabelled with_value kind_of_decorated kind_of_decorated same greatest_depth
    (set_tree kind_of_decorated ps) (tokens_of ps) a.grammar in
    record {
      tokens =
          subst (λ z. AllTokens z) (sym (tokens_map ps)) (values_tokens (tokens_of ps) a.tokens);
      grammar = subst
          (λ z. G kind_of_decorated greatest_depth z (tokens_of (map (part_map with_value) ps))) t
          (subst (λ z. G kind_of_decorated greatest_depth (relabel with_value (set_tree
          kind_of_decorated ps)) z) (each_map with_value (tokens_of ps) ∙ sym (tokens_map ps)) g);
      plain = ap (without_trailing kind_of_decorated) (sym t)
          ∙ (without_relabel with_value kind_of_decorated kind_of_decorated same
          (set_tree kind_of_decorated ps) ∙ (ap (relabel with_value) a.plain ∙ t));
    }

-- ---- lists without trailing commas

module _ {A : Type 0} (kind : A → Kind) where
  plain_shorter : (ts : List A) → length (plain kind ts) ≤ length ts
  plain_shorter [] = omega arith
  plain_shorter (a ∷ ts) = go (is K.Comma (kind a) && begins kind is_closing ts) (plain_shorter ts)
    where
      go : (b : Bool) → length (plain kind ts) ≤ length ts
          → length (drop_if b (a ∷ plain kind ts) (plain kind ts)) ≤ suc (length ts)
      go true h = omega (arith, h)
      go false h = omega (arith, h)

  pub plain_of_length : (ts : List A) → length (plain kind ts) ≡ length ts → plain kind ts ≡ ts
  plain_of_length [] e = refl
  plain_of_length (a ∷ ts) e = go (is K.Comma (kind a) && begins kind is_closing ts) e
      (plain_shorter ts) (plain_of_length ts)
    where
      go : (b : Bool) → length (drop_if b (a ∷ plain kind ts) (plain kind ts)) ≡ suc (length ts)
          → length (plain kind ts) ≤ length ts
          → (length (plain kind ts) ≡ length ts → plain kind ts ≡ ts)
          → drop_if b (a ∷ plain kind ts) (plain kind ts) ≡ a ∷ ts
      go true e l ih = absurd (omega (arith, e, l))
      go false e l ih = ap (λ z. a ∷ z) (ih (omega (arith, e)))

  plain_tail : (a : A) (ts : List A) → plain kind (a ∷ ts) ≡ a ∷ ts
      → (plain kind ts ≡ ts) × ((is K.Comma (kind a) && begins kind is_closing ts) ≡ false)
  plain_tail a ts e =
      go (is K.Comma (kind a) && begins kind is_closing ts) refl e (plain_shorter ts)
    where
      go : (b : Bool) → (is K.Comma (kind a) && begins kind is_closing ts) ≡ b
          → drop_if b (a ∷ plain kind ts) (plain kind ts) ≡ a ∷ ts
          → length (plain kind ts) ≤ length ts
          → (plain kind ts ≡ ts) × ((is K.Comma (kind a) && begins kind is_closing ts) ≡ false)
      go true f h l = absurd (let n = ap length h in omega (arith, n, l))
      go false f h l = (cc, f)

plain_from_same : (d : Decorated) (ts : List Decorated) → plain kind_of_decorated ts ≡ ts
    → plain_from d ts ≡ d ∷ ts
plain_from_same d [] e = refl
plain_from_same d (c ∷ []) e = refl
plain_from_same d (c ∷ (b ∷ ts)) e =
    let p = plain_tail kind_of_decorated c (b ∷ ts) e in
    rw (trailing_agrees c b ∙ p.1) (ap (λ z. d ∷ z) (plain_from_same c (b ∷ ts) p.0))

plain_list_same : (ts : List Decorated) → plain kind_of_decorated ts ≡ ts → plain_list ts ≡ ts
plain_list_same [] e = refl
plain_list_same (c ∷ []) e = refl
plain_list_same (c ∷ (b ∷ ts)) e =
    let p = plain_tail kind_of_decorated c (b ∷ ts) e in
    rw (trailing_agrees c b ∙ p.1) (plain_from_same c (b ∷ ts) p.0)

pub plain_tree : (ps : List (Clause Decorated policy)) → IsTree ps
    → plain_list (tokens_of ps) ≡ tokens_of ps
plain_tree ps a = plain_list_same (tokens_of ps)
    (sym (leaves_are_plain kind_of_decorated greatest_depth (tokens_of ps) (set_tree
    kind_of_decorated ps) a.grammar) ∙ (ap yield a.plain ∙ typed_leaves_agree kind_of_decorated ps))

-- ---- every accepted text has its tree

pub map_length : {A B : Type 0} (f : A → B) (xs : List A) → length (map f xs) ≡ length xs
map_length f [] = refl
map_length f (x ∷ xs) = ap suc (map_length f xs)

-- decorated tokens whose texts are a list of the grammar without trailing commas
tree_of_texts : (ts : List Decorated) → AllTokens ts → (f : Forest Label (List ℕ))
    → PolicySet kind_of greatest_depth f → without_trailing kind_of f ≡ f
    → yield f ≡ map (λ t. t.text) ts
    → (ps : List (Clause Decorated policy)) × IsTree ps × (tokens_of ps ≡ ts)
tree_of_texts ts all f s w y =
    go (set_to kind_of_decorated greatest_depth ts) refl (sym agrees ∙ read)
  where
    text : Decorated → List ℕ
    text t = t.text

    read : set_to kind_of greatest_depth (each (λ (t : Decorated). t.text) ts) ≡ done f []
    read = ap (set_to kind_of greatest_depth) (each_map (λ (t : Decorated). t.text) ts ∙ sym y)
        ∙ set_complete kind_of greatest_depth f s

    agrees : set_to kind_of greatest_depth (each (λ (t : Decorated). t.text) ts)
        ≡ answer_of (λ (t : Decorated). t.text) (set_to kind_of_decorated greatest_depth ts)
    agrees = set_agrees (λ (t : Decorated). t.text) kind_of_decorated kind_of
        (λ t. refl) greatest_depth ts

    -- none of its commas is a trailing one
    texts_plain : map (λ (t : Decorated). t.text) (plain kind_of_decorated ts)
        ≡ map (λ (t : Decorated). t.text) ts
    texts_plain =
        sym (each_map (λ (t : Decorated). t.text) (plain kind_of_decorated ts))
        ∙ (sym (plain_each (λ (t : Decorated). t.text) kind_of_decorated kind_of (λ t. refl) ts)
        ∙ (ap (plain kind_of) (each_map (λ (t : Decorated). t.text) ts ∙ sym y)
        ∙ (sym (leaves_are_plain kind_of greatest_depth (yield f) f
        (record { shape = s; leaves = refl })) ∙ (ap yield w ∙ y))))

    same : plain kind_of_decorated ts ≡ ts
    same = plain_of_length kind_of_decorated ts
        (sym (map_length (λ (t : Decorated). t.text) (plain kind_of_decorated ts))
        ∙ (ap length texts_plain ∙ map_length (λ (t : Decorated). t.text) ts))

    go : (a : Answer Decorated) → set_to kind_of_decorated greatest_depth ts ≡ a
        → answer_of (λ (t : Decorated). t.text) a ≡ done f []
        → (ps : List (Clause Decorated policy)) × IsTree ps × (tokens_of ps ≡ ts)
    go (stuck b r) e q = absurd cc
    go (done g (a ∷ r)) e q = absurd cc
    go (done g []) e q =
        let h = policies_of kind_of_decorated ts g e same in (
          h.policies,
          record {
            tokens = subst (λ z. AllTokens z) (sym h.leaves) all;
            grammar = subst
                (λ z. G kind_of_decorated greatest_depth (set_tree kind_of_decorated h.policies) z)
                (sym h.leaves) h.grammar;
            plain = h.plain;
          },
          h.leaves,
        )

pub good_tokens : (ts : List Decorated) → AllByRecursion IsGood ts → AllTokens ts
good_tokens [] a = tt
good_tokens (t ∷ ts) a = (a.0.token, good_tokens ts a.1)

-- the tokens of a list are tokens, and so are those of its plain list
tokens_all : (us : List (List ℕ)) → AllByRecursion IsToken (only_tokens us)
tokens_all [] = tt
tokens_all (u ∷ us) = go (is_token u) refl (tokens_all us)
  where
    go : (b : Bool) → is_token u ≡ b → AllByRecursion IsToken (only_tokens us)
        → AllByRecursion IsToken (cond b (u ∷ only_tokens us) (only_tokens us))
    go true h ih = (h, ih)
    go false h ih = ih

plain_all : (us : List (List ℕ)) → AllByRecursion IsToken us
    → AllByRecursion IsToken (plain kind_of us)
plain_all [] a = tt
plain_all (u ∷ us) a =
    go (is K.Comma (kind_of u) && begins kind_of is_closing us) (plain_all us a.1)
  where
    go : (b : Bool) → AllByRecursion IsToken (plain kind_of us)
        → AllByRecursion IsToken (drop_if b (u ∷ plain kind_of us) (plain kind_of us))
    go true ih = ih
    go false ih = (a.0, ih)

texts_all : (ts : List Decorated) → AllByRecursion IsToken (map (λ (t : Decorated). t.text) ts)
    → AllTokens ts
texts_all [] a = tt
texts_all (t ∷ ts) a = (a.0, texts_all ts a.1)

listed_all : (x : List ℕ) (l : Listing) → IsListing x l → AllTokens (plain_list l.tokens)
listed_all x l s =
    let texts : map (λ (t : Decorated). t.text) l.tokens ≡ only_tokens s.units =
    ap (λ (m : Listing). map (λ (t : Decorated). t.text) m.tokens) s.value
    ∙ listing_texts s.units in
    texts_all (plain_list l.tokens)
    (subst (AllByRecursion IsToken) (sym (plain_texts_agree l.tokens ∙ ap (plain kind_of) texts))
    (plain_all (only_tokens s.units) (tokens_all s.units)))

pub tree_of_accepted : (x : List ℕ) (l : Listing) → Accepted x → IsListing x l
    → (ps : List (Clause Decorated policy)) × IsTree ps × (tokens_of ps ≡ plain_list l.tokens)
tree_of_accepted x l a s =
    let u : (a.1).units ≡ s.units = split_unique x (a.1).units s.units (a.1).split s.split in
    let texts : map (λ (t : Decorated). t.text) l.tokens ≡ only_tokens (a.1).units =
    ap (λ (m : Listing). map (λ (t : Decorated). t.text) m.tokens) s.value
    ∙ (listing_texts s.units ∙ ap only_tokens (sym u)) in
    let ts = only_tokens (a.1).units in
    let g = kinds_of a.1 in
    let f = without_trailing kind_of a.0 in
    let p : G kind_of greatest_depth f (plain kind_of ts) =
    plain_is_in_the_grammar kind_of greatest_depth ts a.0 g in
    let q : G kind_of greatest_depth (without_trailing kind_of f) (plain kind_of ts) =
    subst (λ z. G kind_of greatest_depth (without_trailing kind_of f) z)
    (plain_is_plain kind_of greatest_depth ts a.0 g)
    (plain_is_in_the_grammar kind_of greatest_depth (plain kind_of ts) f p) in
    let w = list_has_one_tree kind_of greatest_depth greatest_depth (plain kind_of ts)
    (without_trailing kind_of f) f q p in
    let y : yield (without_trailing kind_of a.0)
    ≡ map (λ (t : Decorated). t.text) (plain_list l.tokens) =
    leaves_are_plain kind_of greatest_depth (only_tokens (a.1).units) a.0 g
    ∙ (ap (plain kind_of) (sym texts) ∙ sym (plain_texts_agree l.tokens)) in
    tree_of_texts (plain_list l.tokens) (listed_all x l s) f p.shape w y

pub accepted_has_tree : AcceptedHasTree
accepted_has_tree x l utf8 a s = tree_of_accepted x l a s

-- ---- the trees of an output

pub leaves_of : {w : ℕ} {i : ℤ} {x y : List ℕ} (o : IsOutputOf w i x y)
    → tokens_of o.policies ≡ plain_list o.list.tokens
leaves_of o = sym (typed_leaves_agree literal_kind o.policies) ∙ o.grammar.leaves

-- a literal's label follows from its first byte
labels_agree : (ps : List (Clause Decorated policy))
    → set_tree literal_kind ps ≡ set_tree kind_of_decorated ps
labels_agree ps = sets_agree literal_kind kind_of_decorated (λ t. label_of_first_byte t.text) ps

by_kinds : (ps : List (Clause Decorated policy)) (ts : List Decorated)
    → IsSyntaxTree (λ (t : Decorated). t.text) greatest_depth (set_tree literal_kind ps) ts
    → G kind_of_decorated greatest_depth (set_tree kind_of_decorated ps) ts
by_kinds ps ts g =
    let all =
    texts_are_tokens (λ (t : Decorated). t.text) greatest_depth ts (set_tree literal_kind ps) g in
    subst (λ z. G kind_of_decorated greatest_depth z ts) (labels_agree ps) ((grammars_agree
    (λ (t : Decorated). t.text) greatest_depth ts (set_tree literal_kind ps) all).0 g)

by_texts : (ps : List (Clause Decorated policy)) (ts : List Decorated) → AllTokens ts
    → G kind_of_decorated greatest_depth (set_tree kind_of_decorated ps) ts
    → IsSyntaxTree (λ (t : Decorated). t.text) greatest_depth (set_tree literal_kind ps) ts
by_texts ps ts all g =
    (grammars_agree (λ (t : Decorated). t.text) greatest_depth ts (set_tree literal_kind ps) all).1
    (subst (λ z. G kind_of_decorated greatest_depth z ts) (sym (labels_agree ps)) g)

pub trees_of : {w : ℕ} {i : ℤ} {x y : List ℕ} (o : IsOutputOf w i x y) → IsTree o.policies
trees_of {x = x} o =
    let t = tree_of_accepted x o.list o.accepted o.is_list in
    let g : G kind_of_decorated greatest_depth (set_tree kind_of_decorated t.0)
    (plain_list o.list.tokens) = subst
    (λ z. G kind_of_decorated greatest_depth (set_tree kind_of_decorated t.0) z) t.2 t.1.grammar in
    let h = by_kinds o.policies (plain_list o.list.tokens) o.grammar in
    let same =
    list_has_one_tree kind_of_decorated greatest_depth greatest_depth (plain_list o.list.tokens)
    (set_tree kind_of_decorated t.0) (set_tree kind_of_decorated o.policies) g h in
    subst IsTree (typed_tree_is_unique kind_of_decorated t.0 o.policies same) t.1

pub grammar_of : (ps : List (Clause Decorated policy)) (ts : List Decorated) → IsTree ps
    → tokens_of ps ≡ ts
    → IsSyntaxTree (λ (t : Decorated). t.text) greatest_depth (set_tree literal_kind ps) ts
grammar_of ps ts t e = subst
    (λ z. IsSyntaxTree (λ (t : Decorated). t.text) greatest_depth (set_tree literal_kind ps) z) e
    (by_texts ps (tokens_of ps) t.tokens t.grammar)

-- the leaves fit the table
pub tree_fits : TreeFits
tree_fits ps a =
    let r =
    typed_set kind_of_decorated greatest_depth (set_tree kind_of_decorated ps) a.grammar.shape in
    let e : ps ≡ r.0 = typed_tree_is_unique kind_of_decorated ps r.0 (sym a.plain ∙ r.1) in
    policies_fit ps
    (subst (λ z. AllByRecursion (PartFits kind_of_decorated) z) (sym e) r.2) a.tokens
