-- Equal parts are those of equal typed parts of policies.
use Rattle.std.specs.Prelude.{◌≡◌, List, [], ◌∷◌}
use Rattle.std.proofs.Common.{refl, ap, ap₂}
use Rattle.cedar_tokens.specs.declared.kind.Kind.{Kind}
use Rattle.cedar_grammar.specs.Trees.{Label, Forest, branch, join}
use Rattle.cedar_grammar.specs.Trees as L
use Rattle.cedar_grammar.specs.TypedTrees.{Clause, variable, cond, conds, annotation, annotations, policy, variable_bare, variable_is, variable_op, variable_is_op, cond_of, no_cond, conds_more, annotation_bare, annotation_value, no_annotation, annotations_more, policy_of, part_parts, policy_trees, set_tree}
use Rattle.cedar_grammar.proofs.Typed.PartsSame.{◌⊛◌, unlike, parts_same}
use Rattle.cedar_grammar.proofs.Trees.Unlike.{last_same, ins, nxt, hd}

module _ {A : Type 0} (kind : A → Kind) where
  variable_same : (t u : Clause A variable) → part_parts kind t ≡ part_parts kind u → t ≡ u
  variable_same (variable_bare v) (variable_bare v') e = ap variable_bare (ap (λ z. hd v (ins z)) e)
  variable_same (variable_is v i n) (variable_is v' i' n') e =
      ap variable_is (ap (λ z. hd v (ins z)) e) ⊛ ap (λ z. hd i (nxt z)) e
      ⊛ parts_same kind n n' (ap (λ z. ins (nxt (nxt z))) e)
  variable_same (variable_op v o a) (variable_op v' o' a') e =
      ap variable_op (ap (λ z. hd v (ins z)) e) ⊛ ap (λ z. hd o (nxt z)) e
      ⊛ parts_same kind a a' (ap (λ z. ins (nxt (nxt z))) e)
  variable_same (variable_is_op v i n o a) (variable_is_op v' i' n' o' a') e =
      ap variable_is_op (ap (λ z. hd v (ins z)) e) ⊛ ap (λ z. hd i (nxt z)) e
      ⊛ parts_same kind n n' (ap (λ z. ins (nxt (nxt z))) e) ⊛ ap (λ z. hd o (nxt (nxt (nxt z)))) e
      ⊛ parts_same kind a a' (ap (λ z. ins (nxt (nxt (nxt (nxt z))))) e)
  variable_same t u e = absurd (unlike e refl)

  cond_same : (t u : Clause A cond) → part_parts kind t ≡ part_parts kind u → t ≡ u
  cond_same (cond_of k l c r) (cond_of k' l' c' r') e =
      ap cond_of (ap (λ z. hd k (ins z)) e) ⊛ ap (λ z. hd l (nxt z)) e
      ⊛ parts_same kind c c' (ap (λ z. ins (nxt (nxt z))) e) ⊛ ap (λ z. hd r (nxt (nxt (nxt z)))) e

  conds_same : (t u : Clause A conds) → part_parts kind t ≡ part_parts kind u → t ≡ u
  conds_same no_cond no_cond e = refl
  conds_same (conds_more c m) (conds_more c' m') e =
      ap conds_more (cond_same c c' (ap ins e)) ⊛ conds_same m m' (ap nxt e)
  conds_same t u e = absurd (unlike e refl)

  annotation_same : (t u : Clause A annotation) → part_parts kind t ≡ part_parts kind u → t ≡ u
  annotation_same (annotation_bare a k) (annotation_bare a' k') e =
      ap annotation_bare (ap (hd a) e) ⊛ ap (λ z. hd k (ins (nxt z))) e
  annotation_same (annotation_value a k l s r) (annotation_value a' k' l' s' r') e =
      ap annotation_value (ap (hd a) e) ⊛ ap (λ z. hd k (ins (nxt z))) e
      ⊛ ap (λ z. hd l (nxt (nxt z))) e ⊛ ap (λ z. hd s (ins (nxt (nxt (nxt z))))) e
      ⊛ ap (λ z. hd r (nxt (nxt (nxt (nxt z))))) e
  annotation_same t u e = absurd (unlike e refl)

  -- annotations and then a word
  annotations_same : (t u : Clause A annotations) (f f' g g' : Forest Label A) → join (part_parts
      kind t) (branch L.ident f g) ≡ join (part_parts kind u) (branch L.ident f' g')
      → (t ≡ u) × (branch L.ident f g ≡ branch L.ident f' g')
  annotations_same no_annotation no_annotation f f' g g' e = (refl, e)
  annotations_same (annotations_more a m) (annotations_more a' m') f f' g g' e =
      let rest = annotations_same m m' f f' g g' (ap nxt e) in
      (ap₂ annotations_more (annotation_same a a' (ap ins e)) rest.0, rest.1)
  annotations_same t u f f' g g' e = absurd (unlike e refl)

  pub policy_same : (t u : Clause A policy) → part_parts kind t ≡ part_parts kind u → t ≡ u
  policy_same (policy_of ns x l p c a d r q cs s)
      (policy_of ns' x' l' p' c' a' d' r' q' cs' s') e0 =
      let both = annotations_same ns ns' _ _ _ _ e0 in
      let e_ns = both.0 in
      let e = both.1 in
      let e_x : x ≡ x' = ap (λ z. hd x (ins z)) e in
      let e_l : l ≡ l' = ap (λ z. hd l (nxt z)) e in
      let e_p = variable_same p p' (ap (λ z. ins (nxt (nxt z))) e) in
      let e_c : c ≡ c' = ap (λ z. hd c (nxt (nxt (nxt z)))) e in
      let e_a = variable_same a a' (ap (λ z. ins (nxt (nxt (nxt (nxt z))))) e) in
      let e_d : d ≡ d' = ap (λ z. hd d (nxt (nxt (nxt (nxt (nxt z)))))) e in
      let e_r = variable_same r r' (ap (λ z. ins (nxt (nxt (nxt (nxt (nxt (nxt z))))))) e) in
      let e_q : q ≡ q' = ap (λ z. hd q (nxt (nxt (nxt (nxt (nxt (nxt (nxt z)))))))) e in
      let last = last_same (part_parts kind cs) (part_parts kind cs') s s'
      (ap (λ z. nxt (nxt (nxt (nxt (nxt (nxt (nxt (nxt z)))))))) e) in
      let e_cs = conds_same cs cs' last.0 in
      let e_s = last.1 in
      ap policy_of e_ns ⊛ e_x ⊛ e_l ⊛ e_p ⊛ e_c ⊛ e_a ⊛ e_d ⊛ e_r ⊛ e_q ⊛ e_cs ⊛ e_s

  policies_same : (ps qs : List (Clause A policy)) → policy_trees kind ps ≡ policy_trees kind qs
      → ps ≡ qs
  policies_same [] [] e = refl
  policies_same (p ∷ ps) (q ∷ qs) e =
      ap₂ (λ x y. x ∷ y) (policy_same p q (ap ins e)) (policies_same ps qs (ap nxt e))
  policies_same ps qs e = absurd (unlike e refl)

  -- Equal trees are those of equal policies.
  pub set_same : (ps qs : List (Clause A policy)) → set_tree kind ps ≡ set_tree kind qs → ps ≡ qs
  set_same ps qs e = policies_same ps qs (ap ins e)
