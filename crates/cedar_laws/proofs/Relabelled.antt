-- Typed trees with other leaves of the same kinds.
use Rattle.std.proofs.Common.{◌≡◌, List, [], ◌∷◌, map, refl, ap, sym}
use Rattle.cedar_tokens.specs.declared.kind.Kind.{Kind}
use Rattle.cedar_tokens.specs.declared.kind.Kind.TheVariants as K
use Rattle.cedar_grammar.specs.Trees.{none, leaf, branch}
use Rattle.cedar_grammar.specs.Trees as L
use Rattle.cedar_grammar.specs.TypedTrees.{Tree, NodeKind, PartKind, Clause, policy, name_one, name_more, ref_of, args_one, args_more, init_of, inits_one, inits_more, literal, slot, reference, named, parens, list_empty, list_of, record_empty, record_of, no_access, field, call_empty, call, index, member_of, unsigned, signed, products_one, products_more, mult_of, sums_one, sums_more, add_of, single, compare, has_or_like, is_type, is_in, ands_one, ands_more, ors_one, ors_more, ors_expr, if_expr, variable_bare, variable_is, variable_op, variable_is_op, cond_of, no_cond, conds_more, annotation_bare, annotation_value, no_annotation, annotations_more, policy_of, tree_map, parts, part_parts, policy_trees, set_tree, literal_label}
use Rattle.cedar_grammar.proofs.Rules.Maps.{relabel, relabel_join}
use Rattle.cedar_laws.specs.Leaves.{part_map}

module _ {A B : Type 0} (h : A → B) (kind : A → Kind) (kind' : B → Kind)
    (same : (a : A) → kind' (h a) ≡ kind a) where
  pub parts_map : {k : NodeKind} (t : Tree A k)
      → relabel h (parts kind t) ≡ parts kind' (tree_map h t)
  parts_map (name_one x) = refl
  parts_map (name_more x c r) = simp (parts_map r)
  parts_map (ref_of n c s) = simp (parts_map n)
  parts_map (args_one e) = simp (parts_map e)
  parts_map (args_more e c r) = simp (parts_map e, parts_map r)
  parts_map (init_of k c v) = simp (parts_map k, parts_map v)
  parts_map (inits_one e) = simp (parts_map e)
  parts_map (inits_more e c r) = simp (parts_map e, parts_map r)
  parts_map (literal x) = ap (λ k. branch (literal_label k) (leaf (h x) none) none) (sym (same x))
  parts_map (slot x) = refl
  parts_map (reference r) = simp (parts_map r)
  parts_map (named n) = simp (parts_map n)
  parts_map (parens l e r) = simp (parts_map e)
  parts_map (list_empty l r) = refl
  parts_map (list_of l a r) = simp (parts_map a, relabel_join h)
  parts_map (record_empty l r) = refl
  parts_map (record_of l a r) = simp (parts_map a, relabel_join h)
  parts_map no_access = refl
  parts_map (field d x m) = simp (parts_map m)
  parts_map (call_empty l r m) = simp (parts_map m)
  parts_map (call l a r m) = simp (parts_map a, parts_map m, relabel_join h)
  parts_map (index l x r m) = simp (parts_map m)
  parts_map (member_of p m) = simp (parts_map p, parts_map m)
  parts_map (unsigned m) = simp (parts_map m)
  parts_map (signed s u) = simp (parts_map u)
  parts_map (products_one u) = simp (parts_map u)
  parts_map (products_more u o r) = simp (parts_map u, parts_map r)
  parts_map (mult_of p) = parts_map p
  parts_map (sums_one m) = simp (parts_map m)
  parts_map (sums_more m o r) = simp (parts_map m, parts_map r)
  parts_map (add_of s) = parts_map s
  parts_map (single a) = simp (parts_map a)
  parts_map (compare a o b) = simp (parts_map a, parts_map b)
  parts_map (has_or_like a o b) = simp (parts_map a, parts_map b)
  parts_map (is_type a o n) = simp (parts_map a, parts_map n)
  parts_map (is_in a o n p b) = simp (parts_map a, parts_map n, parts_map b)
  parts_map (ands_one r) = simp (parts_map r)
  parts_map (ands_more r o m) = simp (parts_map r, parts_map m)
  parts_map (ors_one a) = simp (parts_map a)
  parts_map (ors_more a o m) = simp (parts_map a, parts_map m)
  parts_map (ors_expr o) = simp (parts_map o)
  parts_map (if_expr i c t a f b) = simp (parts_map c, parts_map a, parts_map b)

  part_parts_map : {k : PartKind} (t : Clause A k)
      → relabel h (part_parts kind t) ≡ part_parts kind' (part_map h t)
  part_parts_map (variable_bare v) = refl
  part_parts_map (variable_is v i n) = simp (parts_map n)
  part_parts_map (variable_op v o a) = simp (parts_map a)
  part_parts_map (variable_is_op v i n o a) = simp (parts_map n, parts_map a)
  part_parts_map (cond_of k l e r) = simp (parts_map e)
  part_parts_map no_cond = refl
  part_parts_map (conds_more c m) = simp (part_parts_map c, part_parts_map m)
  part_parts_map (annotation_bare a k) = refl
  part_parts_map (annotation_value a k l s r) = refl
  part_parts_map no_annotation = refl
  part_parts_map (annotations_more a m) = simp (part_parts_map a, part_parts_map m)
  part_parts_map (policy_of ns e l p c a d r q cs s) = simp (
    part_parts_map ns,
    part_parts_map p,
    part_parts_map a,
    part_parts_map r,
    part_parts_map cs,
    relabel_join h,
  )

  policy_trees_map : (ps : List (Clause A policy))
      → relabel h (policy_trees kind ps) ≡ policy_trees kind' (map (part_map h) ps)
  policy_trees_map [] = refl
  policy_trees_map (p ∷ ps) = simp (part_parts_map p, policy_trees_map ps)

  pub set_tree_map : (ps : List (Clause A policy))
      → relabel h (set_tree kind ps) ≡ set_tree kind' (map (part_map h) ps)
  set_tree_map ps = ap (λ z. branch L.policies z none) (policy_trees_map ps)
