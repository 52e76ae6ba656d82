-- Outputs at several widths, and outputs of texts that share policies.
use Rattle.std.proofs.Common.{◌≡◌, ℕ, zero, suc, ℤ, List, [], ◌∷◌, map, Option, Some, None, refl, ap, sym, ◌∙◌, subst, append-nil}
use Rattle.std.specs.List.{slice_get}
use Rattle.std.specs.Str.{IsUtf8}
use Rattle.cedar_layout.specs.Layout.{IsTheLayoutAt}
use Rattle.cedar_layout.specs.Cleaning.{IsCleaned}
use Rattle.cedar_tokens.specs.Listing.{Decorated, Listing, by_value}
use Rattle.cedar_tokens.proofs.Scanning.{listing_unique}
use Rattle.cedar_grammar.specs.Trees.{Label, Forest, none, branch, join}
use Rattle.cedar_grammar.specs.Languages.{Many, no_more, one_more}
use Rattle.cedar_grammar.specs.KindGrammar.{Policy}
use Rattle.cedar_grammar.specs.Laws.{kind_of_decorated}
use Rattle.cedar_grammar.specs.Texts.{greatest_depth}
use Rattle.cedar_grammar.specs.TrailingCommas.{without_trailing}
use Rattle.cedar_grammar.specs.TypedTrees.{Clause, policy, part_parts, policy_trees, part_yield}
use Rattle.cedar_grammar.proofs.Trees.Laws.{typed_leaves_agree}
use Rattle.cedar_laws.specs.Leaves.{part_map}
use Rattle.cedar_laws.specs.Table.{part_table}
use Rattle.cedar_laws.specs.Output.{PolicyTexts, IsOutput, with_value, tokens_of}
use Rattle.cedar_laws.specs.GrammarTrees.{IsTree}
use Rattle.cedar_laws.specs.Canonical.{IsOutputOf, plain_listing}
use Rattle.cedar_laws.proofs.ByValue.{part_table_value, tokens_map}
use Rattle.cedar_laws.proofs.FittingTrees.{AllTokens, all_parts}
use Rattle.cedar_laws.proofs.Grammatical.{one_tree, value_tree, trees_of}
use Rattle.cedar_laws.proofs.CanonicalForm.{text_once, documents_by_value, output_exists, own_list, output_trees, outputs_tell}
use Rattle.cedar_laws.proofs.Accepting.{output_again}
use Rattle.cedar_laws.specs.OutputLaws.{LastWidthDecides, policy_values, PoliciesStandAlone, policy_tokens, TokensTellPolicies}

-- ---- one width and then another

-- the texts of trees without leading zeros are those of the trees
texts_of_values : (w : ℕ) (i : ℤ) (ps : List (Clause Decorated policy)) (ts : List (List ℕ))
    → PolicyTexts (IsTheLayoutAt w) i (map (part_map with_value) ps) ts
    → PolicyTexts (IsTheLayoutAt w) i ps ts
texts_of_values w i [] [] a = tt
texts_of_values w i [] (t ∷ ts) a = absurd a
texts_of_values w i (p ∷ ps) [] a = absurd a
texts_of_values w i (p ∷ ps) (t ∷ ts) a = (
  (a.0.0, subst (λ z. IsTheLayoutAt w z a.0.0) (part_table_value i p) a.0.1, a.0.2),
  texts_of_values w i ps ts a.1,
)

-- the output of an output is one of its text
through : (w v : ℕ) (i j : ℤ) (x y z : List ℕ) → IsUtf8 x → IsOutputOf w i x y → IsOutputOf v j y z
    → IsOutputOf v j x z
through w v i j x y z u o p =
    let l = listing_unique y p.list
    (record { tokens = map with_value (tokens_of o.policies); closing = o.list.closing }) p.is_list
    (own_list w i x y u o) in
    let c : p.list.closing ≡ o.list.closing = ap (λ (m : Listing). m.closing) l in
    let q : IsOutput (IsTheLayoutAt v) j (map (part_map with_value) o.policies) o.list.closing z =
    subst (λ ps. IsOutput (IsTheLayoutAt v) j ps o.list.closing z) (output_trees w v i j x y z u o
    p) (subst (λ cs. IsOutput (IsTheLayoutAt v) j p.policies cs z) c p.output) in
    record {
      accepted = o.accepted;
      list = o.list;
      is_list = o.is_list;
      policies = o.policies;
      grammar = o.grammar;
      output = record {
        texts = q.texts;
        cleaned = texts_of_values v j o.policies q.texts q.cleaned;
        written = q.written;
      };
    }

-- an output has an output at every width
output_of_output : (w v : ℕ) (i j : ℤ) (x y : List ℕ) → IsUtf8 x → IsOutputOf w i x y
    → (z : List ℕ) × IsOutputOf v j y z
output_of_output w v i j x y u o =
    let a = output_again w i x y u o in
    let e = output_exists v j a.policies a.list.closing in (
      e.0,
      record {
        accepted = a.accepted;
        list = a.list;
        is_list = a.is_list;
        policies = a.policies;
        grammar = a.grammar;
        output = e.1;
      },
    )

pub last_width_decides : LastWidthDecides
last_width_decides w v i j x y z u o = (through w v i j x y z u o, back)
  where
    back : IsOutputOf v j x z → IsOutputOf v j y z
    back p =
        let r = output_of_output w v i j x y u o in
        let q = through w v i j x y r.0 u o r.1 in
        let e = listing_unique x q.list p.list q.is_list p.is_list in
        subst (λ s. IsOutputOf v j y s)
        ((outputs_tell v j x x r.0 z u u q p).1 (ap (λ m. by_value (plain_listing m)) e)) r.1

-- ---- policies stand alone

-- a policy by value, and its text; or neither
data TextAt (w : ℕ) (i : ℤ) (v : Option (Clause Decorated policy))
    (t : Option (List ℕ)) : Type 0 where
  no_text : v ≡ None → t ≡ None → TextAt w i v t
  a_text : (p : Clause Decorated policy) (s x : List ℕ) → v ≡ Some (part_map with_value p)
      → t ≡ Some x → IsTheLayoutAt w (part_table i p) s → IsCleaned s x → TextAt w i v t

text_at : (w : ℕ) (i : ℤ) (ps : List (Clause Decorated policy)) (ts : List (List ℕ)) (n : ℕ)
    → PolicyTexts (IsTheLayoutAt w) i ps ts
    → TextAt w i (slice_get (policy_values ps) n) (slice_get ts n)
text_at w i [] [] n a = no_text refl refl
text_at w i [] (t ∷ ts) n a = absurd a
text_at w i (p ∷ ps) [] n a = absurd a
text_at w i (p ∷ ps) (t ∷ ts) zero a = a_text p a.0.0 t refl refl a.0.1 a.0.2
text_at w i (p ∷ ps) (t ∷ ts) (suc n) a = text_at w i ps ts n a.1

same_text : (w : ℕ) (i : ℤ) (u v : Option (Clause Decorated policy)) (s t : Option (List ℕ))
    → TextAt w i u s → TextAt w i v t → u ≡ v → s ≡ t
same_text w i u v s t (no_text a b) (no_text c d) e = b ∙ sym d
same_text w i u v s t (no_text a b) (a_text q y g c d l k) e = absurd cc
same_text w i u v s t (a_text p x f a b l k) (no_text c d) e = absurd cc
same_text w i u v s t (a_text p x f a b l k) (a_text q y g c d m n) e =
    let h : part_map with_value p ≡ part_map with_value q = cc in
    let same =
    text_once w (part_table i p) (part_table i q) x y f g (documents_by_value i p q h) l m k n in
    cc

pub policies_stand_alone : PoliciesStandAlone
policies_stand_alone w i ps qs cs ds y z m n a b e =
    same_text w i (slice_get (policy_values ps) m) (slice_get (policy_values qs) n)
    (slice_get a.texts m) (slice_get b.texts n) (text_at w i ps a.texts m a.cleaned)
    (text_at w i qs b.texts n b.cleaned) e

-- ---- a policy's tokens determine it

abbrev IsPolicy : Forest Label Decorated → Type 0
IsPolicy f = Policy kind_of_decorated greatest_depth f

first_policy : (f g h : Forest Label Decorated) → Many IsPolicy f → f ≡ branch Label.policy g h
    → IsPolicy (branch Label.policy g none) × Many IsPolicy h
first_policy f g h (no_more i e) q = absurd cc
first_policy f g h (one_more i u v e x m) q =
    let k : branch Label.policy g h ≡ branch Label.policy x.0 v =
    sym q ∙ (e ∙ ap (λ z. join z v) x.1) in
    let a : g ≡ x.0 = cc in
    let b : h ≡ v = cc in
    ((x.0, ap (λ z. branch Label.policy z none) a, x.2), subst (λ z. Many IsPolicy z) (sym b) m)

-- the first policy is a tree, and so are the others
tree_parts : (p : Clause Decorated policy) (ps : List (Clause Decorated policy)) → IsTree (p ∷ ps)
    → IsTree (p ∷ []) × IsTree ps
tree_parts p ps a =
    let t = all_parts (part_yield p) (tokens_of ps) a.tokens in
    let k = part_parts kind_of_decorated p in
    let r = policy_trees kind_of_decorated ps in
    let s = a.grammar.shape in
    let e : branch Label.policies s.0 none ≡ branch Label.policies (branch Label.policy k r) none =
    sym s.1 in
    let f : s.0 ≡ branch Label.policy k r = cc in
    let m = first_policy s.0 k r s.2 f in
    let q : branch Label.policies (branch Label.policy (without_trailing kind_of_decorated k)
    (without_trailing kind_of_decorated r)) none
    ≡ branch Label.policies (branch Label.policy k r) none = a.plain in
    let c : without_trailing kind_of_decorated k ≡ k = cc in
    let d : without_trailing kind_of_decorated r ≡ r = cc in (
      record {
        tokens = subst (λ z. AllTokens z) (sym (append-nil (part_yield p))) t.0;
        grammar = record {
          shape = (
            branch Label.policy k none,
            refl,
            one_more (branch Label.policy k none) (branch Label.policy k none) none refl m.0
                (no_more none refl),
          );
          leaves = typed_leaves_agree kind_of_decorated (p ∷ []);
        };
        plain = ap (λ z. branch Label.policies (branch Label.policy z none) none) c;
      },
      record {
        tokens = t.1;
        grammar =
            record { shape = (r, refl, m.1); leaves = typed_leaves_agree kind_of_decorated ps };
        plain = ap (λ z. branch Label.policies z none) d;
      },
    )

-- a policy by value, and its tokens; or neither
data TreeAt (v : Option (Clause Decorated policy)) (ts : Option (List Decorated)) : Type 0 where
  no_tree : v ≡ None → ts ≡ None → TreeAt v ts
  a_tree : (p : Clause Decorated policy) → v ≡ Some (part_map with_value p)
      → ts ≡ Some (map with_value (part_yield p)) → IsTree (p ∷ []) → TreeAt v ts

tree_at : (ps : List (Clause Decorated policy)) (n : ℕ) → IsTree ps
    → TreeAt (slice_get (policy_values ps) n) (slice_get (policy_tokens ps) n)
tree_at [] n a = no_tree refl refl
tree_at (p ∷ ps) zero a = a_tree p refl refl (tree_parts p ps a).0
tree_at (p ∷ ps) (suc n) a = tree_at ps n (tree_parts p ps a).1

same_policy : (p q : Clause Decorated policy) → IsTree (p ∷ []) → IsTree (q ∷ [])
    → map with_value (part_yield p) ≡ map with_value (part_yield q)
    → part_map with_value p ≡ part_map with_value q
same_policy p q a b e =
    let l : map with_value (tokens_of (p ∷ [])) ≡ map with_value (tokens_of (q ∷ [])) =
    ap (map with_value) (append-nil (part_yield p))
    ∙ (e ∙ sym (ap (map with_value) (append-nil (part_yield q)))) in
    let t : part_map with_value p ∷ [] ≡ part_map with_value q ∷ [] =
    one_tree (map (part_map with_value) (p ∷ [])) (map (part_map with_value) (q ∷ [])) (value_tree
    (p ∷ []) a) (value_tree (q ∷ []) b) (tokens_map (p ∷ []) ∙ (l ∙ sym (tokens_map (q ∷ [])))) in
    cc

same_value : (u v : Option (Clause Decorated policy)) (s t : Option (List Decorated)) → TreeAt u s
    → TreeAt v t → s ≡ t → u ≡ v
same_value u v s t (no_tree a b) (no_tree c d) e = a ∙ sym c
same_value u v s t (no_tree a b) (a_tree q c d k) e = absurd cc
same_value u v s t (a_tree p a b k) (no_tree c d) e = absurd cc
same_value u v s t (a_tree p a b k) (a_tree q c d l) e =
    let f : map with_value (part_yield p) ≡ map with_value (part_yield q) = cc in
    let g = same_policy p q k l f in
    cc

pub tokens_tell_policies : TokensTellPolicies
tokens_tell_policies w i x1 x2 y1 y2 m n a b e =
    let v =
    same_value (slice_get (policy_values a.policies) m) (slice_get (policy_values b.policies) n)
    (slice_get (policy_tokens a.policies) m) (slice_get (policy_tokens b.policies) n)
    (tree_at a.policies m (trees_of a)) (tree_at b.policies n (trees_of b)) e in
    policies_stand_alone w i a.policies b.policies a.list.closing b.list.closing y1 y2 m n a.output
    b.output v
