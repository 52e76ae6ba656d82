-- Laws of trees of the grammar.
use Rattle.std.specs.Prelude.{◌≡◌, ℕ, zero, suc, ◌+◌, List, [], ◌∷◌, ◌++◌, ◌⊎◌}
use Rattle.std.specs.List.{flat_map}
use Rattle.std.proofs.Common.{refl, sym, ap, ◌∙◌, inl, inr, arith, append-nil, append_assoc, zero-add, suc-add, subst}
use Rattle.cedar_tokens.specs.declared.kind.Kind.{Kind}
use Rattle.cedar_grammar.specs.Trees.{Label, Forest, yield}
use Rattle.cedar_grammar.specs.KindGrammar.{G}
use Rattle.cedar_grammar.specs.TrailingCommas.{plain}
use Rattle.cedar_grammar.specs.TypedTrees as T
use Rattle.cedar_grammar.specs.TypedTrees.{NodeKind, PartKind, Tree, Clause, parts, part_parts, policy_trees, part_yield, name_one, name_more, ref_of, args_one, args_more, init_of, inits_one, inits_more, literal, slot, reference, named, parens, list_empty, list_of, record_empty, record_of, no_access, field, call_empty, call, index, member_of, unsigned, signed, products_one, products_more, mult_of, sums_one, sums_more, add_of, single, compare, has_or_like, is_type, is_in, ands_one, ands_more, ors_one, ors_more, ors_expr, if_expr, variable_bare, variable_is, variable_op, variable_is_op, cond_of, no_cond, conds_more, annotation_bare, annotation_value, no_annotation, annotations_more, policy_of}
use Rattle.cedar_grammar.specs.Laws.{ListHasOneTree, GrammarIsDecidable, DeeperHasMore, LeavesArePlain, EveryTreeIsTyped, TypedTreeIsUnique, TypedLeavesAgree}
use Rattle.cedar_grammar.specs.Reader.Reading.{Answer, done, stuck}
use Rattle.cedar_grammar.specs.Reader.Lines.{set_to}
use Rattle.cedar_grammar.proofs.Readers.Languages.{yield_join}
use Rattle.cedar_grammar.proofs.WholeLaws.{set_sound, set_complete, set_deeper}
use Rattle.cedar_grammar.proofs.Plain.Leaves.{plain_leaves}
use Rattle.cedar_grammar.proofs.Typed.ClausesSame.{set_same}
use Rattle.cedar_grammar.proofs.Typed.Policies.{typed_set}

module _ {A : Type 0} (kind : A → Kind) where
  -- more depth keeps a tree
  pub deeper : (n d : ℕ) (ts : List A) (f : Forest Label A) → G kind d f ts → G kind (n + d) f ts
  deeper n d ts f g = record {
    shape = (set_sound kind (n + d) (yield f) f [] (read n)).among;
    leaves = g.leaves;
  }
    where
      read : (n : ℕ) → set_to kind (n + d) (yield f) ≡ done f []
      read zero = ap (λ k. set_to kind k (yield f)) (zero-add d) ∙ set_complete kind d f g.shape
      read (suc n) = ap (λ k. set_to kind k (yield f)) (suc-add n d)
          ∙ (set_deeper kind (n + d) (yield f)).success f [] (read n)

  pub deeper_has_more : DeeperHasMore kind
  deeper_has_more d ts f g = subst (λ k. G kind k f ts) (omega arith) (deeper 1 d ts f g)

  one_at : (d : ℕ) (ts : List A) (f g : Forest Label A) → G kind d f ts → G kind d g ts → f ≡ g
  one_at d ts f g x y =
      let a = set_complete kind d f x.shape in
      let b = set_complete kind d g y.shape in
      let c : done f [] ≡ done g [] = sym a ∙ ap (set_to kind d) (x.leaves ∙ sym y.leaves) ∙ b in cc

  pub list_has_one_tree : ListHasOneTree kind
  list_has_one_tree d e ts f g x y =
      let c : e + d ≡ d + e = omega arith in
      one_at (d + e) ts f g (subst (λ k. G kind k f ts) c (deeper e d ts f x)) (deeper d e ts g y)

  pub grammar_is_decidable : GrammarIsDecidable kind
  grammar_is_decidable d ts = go (set_to kind d ts) refl
    where
      go : (x : Answer A) → set_to kind d ts ≡ x
          → ((f : Forest Label A) × G kind d f ts) ⊎ ((f : Forest Label A) → ¬ (G kind d f ts))
      go (done f []) e =
          let k = set_sound kind d ts f [] e in
          inl (f, record { shape = k.among; leaves = sym (k.tokens ∙ append-nil (yield f)) })
      go (done f (a ∷ r)) e =
          inr (λ g x. let c = set_complete kind d g x.shape in let w : done g [] ≡ done f (a ∷ r) =
          sym c ∙ ap (set_to kind d) x.leaves ∙ e in let z : ◌≡◌ {A = List A} [] (a ∷ r) = cc in cc)
      go (stuck b r) e = inr (λ g x. let c = set_complete kind d g x.shape in
          let w : done g [] ≡ stuck b r = sym c ∙ ap (set_to kind d) x.leaves ∙ e in cc)

  pub leaves_are_plain : LeavesArePlain kind
  leaves_are_plain d ts f g = plain_leaves kind d f g.shape ∙ ap (plain kind) g.leaves

  pub every_tree_is_typed : EveryTreeIsTyped kind
  every_tree_is_typed d ts f g = let r = typed_set kind d f g.shape in (r.0, r.1)

  pub typed_tree_is_unique : TypedTreeIsUnique kind
  typed_tree_is_unique = set_same kind

  pub typed_leaves : {k : NodeKind} (t : Tree A k) → yield (parts kind t) ≡ T.tree_yield t
  typed_leaves (name_one x) = refl
  typed_leaves (name_more x c r) = simp (typed_leaves r) refl
  typed_leaves (ref_of n c s) = simp (append-nil, typed_leaves n) refl
  typed_leaves (args_one e) = simp (append-nil, typed_leaves e) refl
  typed_leaves (args_more e c r) = simp (typed_leaves e, typed_leaves r) refl
  typed_leaves (init_of k c v) = simp (append-nil, typed_leaves k, typed_leaves v) refl
  typed_leaves (inits_one e) = simp (append-nil, typed_leaves e) refl
  typed_leaves (inits_more e c r) = simp (typed_leaves e, typed_leaves r) refl
  typed_leaves (literal x) = refl
  typed_leaves (slot x) = refl
  typed_leaves (reference r) = simp (append-nil, typed_leaves r) refl
  typed_leaves (named n) = simp (append-nil, typed_leaves n) refl
  typed_leaves (parens l e r) = simp (append-nil, append_assoc, typed_leaves e) refl
  typed_leaves (list_empty l r) = refl
  typed_leaves (list_of l a r) = simp (append-nil, append_assoc, yield_join, typed_leaves a) refl
  typed_leaves (record_empty l r) = refl
  typed_leaves (record_of l a r) = simp (append-nil, append_assoc, yield_join, typed_leaves a) refl
  typed_leaves no_access = refl
  typed_leaves (field d x m) = simp (typed_leaves m) refl
  typed_leaves (call_empty l r m) = simp (typed_leaves m) refl
  typed_leaves (call l a r m) = simp (append_assoc, yield_join, typed_leaves a, typed_leaves m) refl
  typed_leaves (index l x r m) = simp (typed_leaves m) refl
  typed_leaves (member_of p m) = simp (typed_leaves p, typed_leaves m) refl
  typed_leaves (unsigned m) = simp (append-nil, typed_leaves m) refl
  typed_leaves (signed s u) = simp (typed_leaves u) refl
  typed_leaves (products_one u) = simp (append-nil, typed_leaves u) refl
  typed_leaves (products_more u o r) = simp (typed_leaves u, typed_leaves r) refl
  typed_leaves (mult_of p) = simp (typed_leaves p) refl
  typed_leaves (sums_one m) = simp (append-nil, typed_leaves m) refl
  typed_leaves (sums_more m o r) = simp (typed_leaves m, typed_leaves r) refl
  typed_leaves (add_of s) = simp (typed_leaves s) refl
  typed_leaves (single a) = simp (append-nil, typed_leaves a) refl
  typed_leaves (compare a o b) =
      simp (append-nil (T.tree_yield b), typed_leaves a, typed_leaves b) refl
  typed_leaves (has_or_like a o b) =
      simp (append-nil (T.tree_yield b), typed_leaves a, typed_leaves b) refl
  typed_leaves (is_type a o n) =
      simp (append-nil (T.tree_yield n), typed_leaves a, typed_leaves n) refl
  typed_leaves (is_in a o n p b) = simp
      (append-nil (T.tree_yield b), append_assoc, typed_leaves a, typed_leaves n, typed_leaves b)
      refl
  typed_leaves (ands_one r) = simp (append-nil, typed_leaves r) refl
  typed_leaves (ands_more r o m) = simp (typed_leaves r, typed_leaves m) refl
  typed_leaves (ors_one a) = simp (append-nil, typed_leaves a) refl
  typed_leaves (ors_more a o m) = simp (typed_leaves a, typed_leaves m) refl
  typed_leaves (ors_expr o) = simp (append-nil, typed_leaves o) refl
  typed_leaves (if_expr i c t a f b) =
      simp (append-nil, typed_leaves c, typed_leaves a, typed_leaves b) refl

  pub part_leaves : {k : PartKind} (t : Clause A k) → yield (part_parts kind t) ≡ part_yield t
  part_leaves (variable_bare v) = refl
  part_leaves (variable_is v i n) = simp (append-nil, typed_leaves n) refl
  part_leaves (variable_op v o a) = simp (append-nil, typed_leaves a) refl
  part_leaves (variable_is_op v i n o a) = simp (append-nil, typed_leaves n, typed_leaves a) refl
  part_leaves (cond_of k l e r) = simp (typed_leaves e) refl
  part_leaves no_cond = refl
  part_leaves (conds_more c m) = simp (part_leaves c, part_leaves m) refl
  part_leaves (annotation_bare a k) = refl
  part_leaves (annotation_value a k l s r) = refl
  part_leaves no_annotation = refl
  part_leaves (annotations_more a m) = simp (part_leaves a, part_leaves m) refl
  part_leaves (policy_of ns e l p c a d r q cs s) = simp
      (yield_join, part_leaves ns, part_leaves p, part_leaves a, part_leaves r, part_leaves cs) refl

  policies_leaves : (ps : List (Clause A T.policy))
      → yield (policy_trees kind ps) ≡ flat_map part_yield ps
  policies_leaves [] = refl
  policies_leaves (p ∷ ps) = ap (λ z. z ++ yield (policy_trees kind ps)) (part_leaves p)
      ∙ ap (λ z. part_yield p ++ z) (policies_leaves ps)

  pub typed_leaves_agree : TypedLeavesAgree kind
  typed_leaves_agree ps = append-nil (yield (policy_trees kind ps)) ∙ policies_leaves ps
