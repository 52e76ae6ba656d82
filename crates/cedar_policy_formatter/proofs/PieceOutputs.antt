-- The output of a text is that of its pieces, with an empty line between them.
use Rattle.std.proofs.Common.{◌≡◌, ℕ, ℤ, Bool, true, false, ◌||◌, List, [], ◌∷◌, ◌++◌, length, take, drop, refl, ap, arith, sym, ◌∙◌, subst, append_assoc, append-nil}
use Rattle.std.specs.Prelude.{IsTrue, nat_eq, nat_lt}
use Rattle.std.specs.List.{AllByRecursion}
use Rattle.std.proofs.lemmas.List.{take_all}
use Rattle.std.proofs.lemmas.List.Concat.{flat_map-append}
use Rattle.std.proofs.lemmas.Bool.Decides.{nat_tests}
use Rattle.cedar_layout.specs.Layout.{Doc, IsTheLayoutAt}
use Rattle.cedar_tokens.specs.Bytes.{line_feed}
use Rattle.cedar_tokens.specs.Split.{SplitsInto}
use Rattle.cedar_tokens.specs.Listing.{Decorated, Listing, IsListing, comments}
use Rattle.cedar_tokens.specs.PlainList.{is_closing_bracket, plain_list}
use Rattle.cedar_tokens.specs.declared.kind.Kind.{Kind}
use Rattle.cedar_tokens.specs.declared.kind.Kind.TheVariants as K
use Rattle.cedar_tokens.specs.Kinds.{is, code, is_closing}
use Rattle.cedar_tokens.specs.Units.{is_token}
use Rattle.cedar_grammar.specs.Trees.{Label, Forest, none, branch}
use Rattle.cedar_grammar.specs.Trees as F
use Rattle.cedar_grammar.specs.Languages.{Many, no_more, one_more}
use Rattle.cedar_grammar.specs.KindGrammar.{Policy}
use Rattle.cedar_grammar.specs.Laws.{kind_of_decorated}
use Rattle.cedar_grammar.specs.Texts.{Accepted, greatest_depth, only_tokens}
use Rattle.cedar_grammar.specs.TrailingCommas.{without_trailing}
use Rattle.cedar_grammar.specs.TypedTrees.{Clause, policy, policy_trees, set_tree, part_parts, part_yield, policy_of, no_annotation, annotations_more, annotation_bare, annotation_value}
use Rattle.cedar_grammar.proofs.Typed.FittingLeaves.{is_atom, PartFits}
use Rattle.cedar_grammar.proofs.Readers.Equations.{join_assoc}
use Rattle.cedar_grammar.proofs.Texts.Kinds.{closing_agrees}
use Rattle.cedar_grammar.proofs.Trees.Laws.{typed_tree_is_unique, typed_leaves_agree}
use Rattle.cedar_grammar.proofs.Typed.Policies.{typed_set}
use Rattle.cedar_laws.specs.Output.{paragraphs, closing_text, PolicyTexts, tokens_of}
use Rattle.cedar_laws.specs.GrammarTrees.{IsTree}
use Rattle.cedar_laws.specs.Canonical.{IsOutputOf}
use Rattle.cedar_laws.proofs.FittingTrees.{AllTokens}
use Rattle.cedar_laws.proofs.Grammatical.{tree_of_accepted, trees_of, leaves_of, grammar_of}
use Rattle.cedar_reading.specs.Pieces.{IsPiece}
use Rattle.cedar_reading.proofs.Lists.{lists_follow, piece_ends, begins_trailing, plain_follow, plain_begins, plain_empty, comments_alone}
use Rattle.cedar_tokens.proofs.Lists.{All-append}
use Rattle.cedar_cst.proofs.PartLaws.{append_not_nil}

-- ---- trees

many_join : {A : Type 0} {X : Forest Label A → Type 0} (f g : Forest Label A) → Many X f → Many X g
    → Many X (F.join f g)
many_join {X = X} f g (no_more i e) n = subst (λ z. Many X z) (sym (ap (λ z. F.join z g) e)) n
many_join f g (one_more i u v e x m) n = one_more (F.join f g) u (F.join v g)
    (ap (λ z. F.join z g) e ∙ join_assoc u v g) x (many_join v g m n)

policies_join : {A : Type 0} (kind : A → Kind) (ps qs : List (Clause A policy))
    → policy_trees kind (ps ++ qs) ≡ F.join (policy_trees kind ps) (policy_trees kind qs)
policies_join kind [] qs = refl
policies_join kind (p ∷ ps) qs =
    ap (λ z. branch Label.policy (part_parts kind p) z) (policies_join kind ps qs)

-- policies without trailing commas, one after the other, have none
plain_join : {A : Type 0} (kind : A → Kind) (ps qs : List (Clause A policy))
    → without_trailing kind (policy_trees kind ps) ≡ policy_trees kind ps
    → without_trailing kind (policy_trees kind qs) ≡ policy_trees kind qs
    → without_trailing kind (policy_trees kind (ps ++ qs)) ≡ policy_trees kind (ps ++ qs)
plain_join kind [] qs a b = b
plain_join kind (p ∷ ps) qs a b =
    let q : branch Label.policy (without_trailing kind (part_parts kind p)) (without_trailing kind
    (policy_trees kind ps)) ≡ branch Label.policy (part_parts kind p) (policy_trees kind ps) = a in
    let c : without_trailing kind (part_parts kind p) ≡ part_parts kind p = cc in
    let d : without_trailing kind (policy_trees kind ps) ≡ policy_trees kind ps = cc in
    ap (λ z. branch Label.policy z (without_trailing kind (policy_trees kind (ps ++ qs)))) c
    ∙ ap (λ z. branch Label.policy (part_parts kind p) z) (plain_join kind ps qs d b)

tokens_join : (ps qs : List (Clause Decorated policy))
    → tokens_of (ps ++ qs) ≡ tokens_of ps ++ tokens_of qs
tokens_join ps qs = flat_map-append part_yield ps qs

-- the row of a tree's policies is one of the grammar, without trailing commas
abbrev IsRow : List (Clause Decorated policy) → Type 0
IsRow ps = Many (Policy kind_of_decorated greatest_depth) (policy_trees kind_of_decorated ps)
    × (without_trailing kind_of_decorated (policy_trees kind_of_decorated ps)
    ≡ policy_trees kind_of_decorated ps)

row_of : (ps : List (Clause Decorated policy)) → IsTree ps → IsRow ps
row_of ps a =
    let r = policy_trees kind_of_decorated ps in
    let s = a.grammar.shape in
    let e : branch Label.policies s.0 none ≡ branch Label.policies r none = sym s.1 in
    let f : s.0 ≡ r = cc in
    let q : branch Label.policies (without_trailing kind_of_decorated r) none
    ≡ branch Label.policies r none = a.plain in
    let d : without_trailing kind_of_decorated r ≡ r = cc in
    (subst (λ z. Many (Policy kind_of_decorated greatest_depth) z) f s.2, d)

-- the trees of two lists, one after the other
pub trees_join : (ps qs : List (Clause Decorated policy)) → IsTree ps → IsTree qs
    → IsTree (ps ++ qs)
trees_join ps qs a b =
    let x = row_of ps a in
    let y = row_of qs b in
    record {
      tokens = subst (λ z. AllTokens z) (sym (tokens_join ps qs)) (All-append (λ (t : Decorated).
          is_token t.text ≡ true) (tokens_of ps) (tokens_of qs) a.tokens b.tokens);
      grammar = record {
        shape = (
          policy_trees kind_of_decorated (ps ++ qs),
          refl,
          subst (λ z. Many (Policy kind_of_decorated greatest_depth) z)
              (sym (policies_join kind_of_decorated ps qs)) (many_join
              (policy_trees kind_of_decorated ps) (policy_trees kind_of_decorated qs) x.0 y.0),
        );
        leaves = typed_leaves_agree kind_of_decorated (ps ++ qs);
      };
      plain = ap (λ z. branch Label.policies z none) (plain_join kind_of_decorated ps qs x.1 y.1);
    }

-- ---- the first token of policies

atom_open : (k : Kind) → IsTrue (is_atom k) → is_closing k ≡ false
atom_open k h = by_code (code k) h
  where
    by_code : (c : ℕ) → nat_lt c 22 ≡ true → (nat_eq c 29 || nat_eq c 33 || nat_eq c 31) ≡ false
    by_code c h = grind (arith, nat_tests)

at_open : (k : Kind) → IsTrue (is K.At k) → is_closing k ≡ false
at_open k h = by_code (code k) h
  where
    by_code : (c : ℕ) → nat_eq c 22 ≡ true → (nat_eq c 29 || nat_eq c 33 || nat_eq c 31) ≡ false
    by_code c h = grind (arith, nat_tests)

-- a list that begins with a token that is no closing bracket
abbrev BeginsOpen : {A : Type 0} → (A → Kind) → List A → Type 0
BeginsOpen {A} kind ts = (t : A) × (us : List A) × (ts ≡ t ∷ us) × (is_closing (kind t) ≡ false)

policy_open : {A : Type 0} (kind : A → Kind) (p : Clause A policy) → PartFits kind p
    → BeginsOpen kind (part_yield p)
policy_open kind (policy_of no_annotation e l p c a d r q cs s) f =
    (e, _, refl, atom_open (kind e) f.1)
policy_open kind (policy_of (annotations_more (annotation_bare x k) m) e l p c a d r q cs s) f =
    (x, _, refl, at_open (kind x) f.0.0.0)
policy_open kind (policy_of (annotations_more (annotation_value x k y z w) m) e l p c a d r q cs s)
    f = (x, _, refl, at_open (kind x) f.0.0.0)

-- policies do not begin with a closing bracket
pub trees_open : (ps : List (Clause Decorated policy)) (t : Decorated) (ts : List Decorated)
    → IsTree ps → tokens_of ps ≡ t ∷ ts → is_closing_bracket t.text ≡ true → ⊥
trees_open [] t ts a e h = absurd cc
trees_open (p ∷ ps) t ts a e h =
    let r = typed_set kind_of_decorated greatest_depth
    (set_tree kind_of_decorated (p ∷ ps)) a.grammar.shape in
    let same : p ∷ ps ≡ r.0 =
    typed_tree_is_unique kind_of_decorated (p ∷ ps) r.0 (sym a.plain ∙ r.1) in
    let f = subst (λ z. AllByRecursion (PartFits kind_of_decorated) z) (sym same) r.2 in
    let o = policy_open kind_of_decorated p f.0 in
    let g : o.0 ∷ (o.1 ++ tokens_of ps) ≡ t ∷ ts = sym (ap (λ z. z ++ tokens_of ps) o.2) ∙ e in
    let k : o.0 ≡ t = cc in
    let n : is_closing_bracket t.text ≡ false =
    sym (closing_agrees t.text) ∙ (ap (λ z. is_closing (kind_of_decorated z)) (sym k) ∙ o.3) in
    absurd cc

-- so the list of an output's text does not begin with a trailing comma
first_stays : (ps : List (Clause Decorated policy)) (us : List Decorated) → IsTree ps
    → tokens_of ps ≡ plain_list us → begins_trailing us ≡ false
first_stays ps us a e = go (begins_trailing us) refl
  where
    go : (b : Bool) → begins_trailing us ≡ b → b ≡ false
    go false h = refl
    go true h = let q = plain_begins us h in absurd (trees_open ps q.0 q.1 a (e ∙ q.2) q.3)

-- nor does that of an accepted text
pub list_stays : (text : List ℕ) (l : Listing) → Accepted text → IsListing text l
    → begins_trailing l.tokens ≡ false
list_stays text l a i = let t = tree_of_accepted text l a i in first_stays t.0 l.tokens t.1 t.2

-- ---- texts

texts_join : (laid : Doc → List ℕ → Type 0) (i : ℤ) (ps qs : List (Clause Decorated policy))
    (ts us : List (List ℕ)) → PolicyTexts laid i ps ts → PolicyTexts laid i qs us
    → PolicyTexts laid i (ps ++ qs) (ts ++ us)
texts_join laid i [] qs [] us a b = b
texts_join laid i [] qs (t ∷ ts) us a b = absurd a
texts_join laid i (p ∷ ps) qs [] us a b = absurd a
texts_join laid i (p ∷ ps) qs (t ∷ ts) us a b = (a.0, texts_join laid i ps qs ts us a.1 b)

-- where there are policies there are texts
no_texts : (laid : Doc → List ℕ → Type 0) (i : ℤ) (ps : List (Clause Decorated policy))
    → PolicyTexts laid i ps [] → ps ≡ []
no_texts laid i [] a = refl
no_texts laid i (p ∷ ps) a = absurd a

join_more : (ts us : List (List ℕ)) → (ts ≡ [] → ⊥) → (us ≡ [] → ⊥)
    → paragraphs (ts ++ us) ≡ paragraphs ts ++ (line_feed ∷ (line_feed ∷ paragraphs us))
join_more [] us a b = absurd (a refl)
join_more (t ∷ []) [] a b = absurd (b refl)
join_more (t ∷ []) (u ∷ us) a b = refl
join_more (t ∷ (s ∷ ts)) us a b =
    ap (λ z. t ++ (line_feed ∷ (line_feed ∷ z))) (join_more (s ∷ ts) us (λ e. absurd cc) b)
    ∙ sym (append_assoc t (line_feed ∷ (line_feed ∷ paragraphs (s ∷ ts)))
    (line_feed ∷ (line_feed ∷ paragraphs us)))

-- an output of a list that has tokens has a text
has_text : (w : ℕ) (i : ℤ) (x y : List ℕ) (o : IsOutputOf w i x y) → (o.list.tokens ≡ [] → ⊥)
    → o.output.texts ≡ [] → ⊥
has_text w i x y o h e =
    let p : o.policies ≡ [] = no_texts (IsTheLayoutAt w) i o.policies
    (subst (λ z. PolicyTexts (IsTheLayoutAt w) i o.policies z) e o.output.cleaned) in
    h (plain_empty o.list.tokens (sym (leaves_of o) ∙ ap tokens_of p))

-- ---- outputs

-- after a piece's output comes that of the rest, if that has tokens, with an empty line between
pub outputs_follow : (w : ℕ) (i : ℤ) (text : List ℕ) (n : ℕ) (y z : List ℕ) → Accepted text
    → IsPiece text n → IsOutputOf w i (take n text) y → (b : IsOutputOf w i (drop n text) z)
    → (b.list.tokens ≡ [] → ⊥) → IsOutputOf w i text (y ++ (line_feed ∷ z))
outputs_follow w i text n y z c p a b more =
    let e = piece_ends text n a.list p a.is_list in
    let s = e.1.2 in
    let parts : plain_list (a.list.tokens ++ b.list.tokens)
    ≡ plain_list a.list.tokens ++ plain_list b.list.tokens =
    subst (λ l. plain_list (l ++ b.list.tokens) ≡ plain_list l ++ plain_list b.list.tokens) (sym s)
    (plain_follow e.1.0 e.1.1 b.list.tokens e.1.3
    (first_stays b.policies b.list.tokens (trees_of b) (leaves_of b))) in
    let some : a.list.tokens ≡ [] → ⊥ = λ h. append_not_nil e.1.0 e.1.1 [] (sym s ∙ h) in
    let front : y ≡ paragraphs a.output.texts ++ (line_feed ∷ []) =
    a.output.written ∙ ap (λ c. paragraphs a.output.texts ++ (line_feed ∷ closing_text c)) e.0 in
    let back : y ++ (line_feed ∷ z)
    ≡ paragraphs (a.output.texts ++ b.output.texts) ++ (line_feed ∷ closing_text b.list.closing) =
    ap (λ v. v ++ (line_feed ∷ z)) front
    ∙ (append_assoc (paragraphs a.output.texts) (line_feed ∷ []) (line_feed ∷ z)
    ∙ (ap (λ v. paragraphs a.output.texts ++ (line_feed ∷ (line_feed ∷ v))) b.output.written
    ∙ (sym (append_assoc (paragraphs a.output.texts)
    (line_feed ∷ (line_feed ∷ paragraphs b.output.texts))
    (line_feed ∷ closing_text b.list.closing))
    ∙ ap (λ v. v ++ (line_feed ∷ closing_text b.list.closing))
    (sym (join_more a.output.texts b.output.texts (has_text w i (take n text) y a some)
    (has_text w i (drop n text) z b more)))))) in
    record {
      accepted = c;
      list = record { tokens = a.list.tokens ++ b.list.tokens; closing = b.list.closing };
      is_list = lists_follow text n a.list b.list p a.is_list b.is_list;
      policies = a.policies ++ b.policies;
      grammar = grammar_of (a.policies ++ b.policies) (plain_list (a.list.tokens ++ b.list.tokens))
          (trees_join a.policies b.policies (trees_of a) (trees_of b))
          (tokens_join a.policies b.policies ∙ (ap (λ l. l ++ tokens_of b.policies) (leaves_of a)
          ∙ (ap (λ l. plain_list a.list.tokens ++ l) (leaves_of b) ∙ sym parts)));
      output = record {
        texts = a.output.texts ++ b.output.texts;
        cleaned = texts_join (IsTheLayoutAt w) i a.policies b.policies a.output.texts b.output.texts
            a.output.cleaned b.output.cleaned;
        written = back;
      };
    }

-- the output of a text of two pieces: an empty line separates the policies of their outputs
pub outputs_join : (w : ℕ) (i : ℤ) (text : List ℕ) (n : ℕ) (y z : List ℕ) → Accepted text
    → IsPiece text n → ((m : ℕ) × IsPiece (drop n text) m × (m ≡ length (drop n text)))
    → IsOutputOf w i (take n text) y → IsOutputOf w i (drop n text) z
    → IsOutputOf w i text (y ++ (line_feed ∷ z))
outputs_join w i text n y z c p (m, q, e) a b =
    let whole : take m (drop n text) ≡ drop n text = take_all m (drop n text) (omega (arith, e)) in
    let l =
    piece_ends (drop n text) m b.list q (subst (λ x. IsListing x b.list) (sym whole) b.is_list) in
    outputs_follow w i text n y z c p a b (λ h. append_not_nil l.1.0 l.1.1 [] (sym l.1.2 ∙ h))

-- if no token follows the piece, its closing comments do
pub outputs_close : (w : ℕ) (i : ℤ) (text : List ℕ) (n : ℕ) (us : List (List ℕ)) (y : List ℕ)
    → Accepted text → IsPiece text n → SplitsInto (drop n text) us → only_tokens us ≡ []
    → IsOutputOf w i (take n text) y
    → IsOutputOf w i text (y ++ closing_text (comments (drop n text)))
outputs_close w i text n us y c p s h a =
    let cs = comments (drop n text) in
    let e = piece_ends text n a.list p a.is_list in
    let l = lists_follow text n a.list (record { tokens = []; closing = cs }) p a.is_list
    (comments_alone (drop n text) us s h) in
    let front : y ≡ paragraphs a.output.texts ++ (line_feed ∷ []) =
    a.output.written ∙ ap (λ c. paragraphs a.output.texts ++ (line_feed ∷ closing_text c)) e.0 in
    record {
      accepted = c;
      list = record { tokens = a.list.tokens; closing = cs };
      is_list = subst (λ ts. IsListing text (record { tokens = ts; closing = cs }))
          (append-nil a.list.tokens) l;
      policies = a.policies;
      grammar = a.grammar;
      output = record {
        texts = a.output.texts;
        cleaned = a.output.cleaned;
        written = ap (λ v. v ++ closing_text cs) front
            ∙ append_assoc (paragraphs a.output.texts) (line_feed ∷ []) (closing_text cs);
      };
    }

-- a text without tokens has only closing comments
pub closing_output : (w : ℕ) (i : ℤ) (text : List ℕ) (us : List (List ℕ)) → Accepted text
    → SplitsInto text us → only_tokens us ≡ []
    → IsOutputOf w i text (line_feed ∷ closing_text (comments text))
closing_output w i text us c s h = record {
  accepted = c;
  list = record { tokens = []; closing = comments text };
  is_list = comments_alone text us s h;
  policies = [];
  grammar = record { shape = (none, refl, no_more none refl); leaves = refl };
  output = record { texts = []; cleaned = tt; written = refl };
}
