-- The tree of typed policies under two ways to determine the kinds of tokens.
use Rattle.std.proofs.Common.{◌≡◌, ℕ, List, [], ◌∷◌, refl, ap, sym, ◌∙◌}
use Rattle.std.specs.Prelude.{if◌then◌else◌}
use Rattle.cedar_tokens.specs.declared.kind.Kind.{Kind}
use Rattle.cedar_tokens.specs.declared.kind.Kind.TheVariants as K
use Rattle.cedar_tokens.specs.Kinds.{is}
use Rattle.cedar_grammar.specs.Trees.{Label, none, leaf, branch}
use Rattle.cedar_tokens.specs.TokenKinds.{fixed_tokens, other_kind, kind_of}
use Rattle.cedar_grammar.specs.TypedTrees.{Tree, NodeKind, PartKind, Clause, policy, name_one, name_more, ref_of, args_one, args_more, init_of, inits_one, inits_more, literal, slot, reference, named, parens, list_empty, list_of, record_empty, record_of, no_access, field, call_empty, call, index, member_of, unsigned, signed, products_one, products_more, mult_of, sums_one, sums_more, add_of, single, compare, has_or_like, is_type, is_in, ands_one, ands_more, ors_one, ors_more, ors_expr, if_expr, variable_bare, variable_is, variable_op, variable_is_op, cond_of, no_cond, conds_more, annotation_bare, annotation_value, no_annotation, annotations_more, policy_of, parts, part_parts, policy_trees, set_tree, literal_label}
use Rattle.cedar_grammar.proofs.Texts.Tests.{agrees}

-- ways that give literals the same labels give equal trees
module _ {A : Type 0} (kind kind' : A → Kind)
    (same : (a : A) → literal_label (kind a) ≡ literal_label (kind' a)) where
  parts_agree : {k : NodeKind} (t : Tree A k) → parts kind t ≡ parts kind' t
  parts_agree (name_one x) = refl
  parts_agree (name_more x c r) = simp (parts_agree r)
  parts_agree (ref_of n c s) = simp (parts_agree n)
  parts_agree (args_one e) = simp (parts_agree e)
  parts_agree (args_more e c r) = simp (parts_agree e, parts_agree r)
  parts_agree (init_of k c v) = simp (parts_agree k, parts_agree v)
  parts_agree (inits_one e) = simp (parts_agree e)
  parts_agree (inits_more e c r) = simp (parts_agree e, parts_agree r)
  parts_agree (literal x) = ap (λ l. branch l (leaf x none) none) (same x)
  parts_agree (slot x) = refl
  parts_agree (reference r) = simp (parts_agree r)
  parts_agree (named n) = simp (parts_agree n)
  parts_agree (parens l e r) = simp (parts_agree e)
  parts_agree (list_empty l r) = refl
  parts_agree (list_of l a r) = simp (parts_agree a)
  parts_agree (record_empty l r) = refl
  parts_agree (record_of l a r) = simp (parts_agree a)
  parts_agree no_access = refl
  parts_agree (field d x m) = simp (parts_agree m)
  parts_agree (call_empty l r m) = simp (parts_agree m)
  parts_agree (call l a r m) = simp (parts_agree a, parts_agree m)
  parts_agree (index l x r m) = simp (parts_agree m)
  parts_agree (member_of p m) = simp (parts_agree p, parts_agree m)
  parts_agree (unsigned m) = simp (parts_agree m)
  parts_agree (signed s u) = simp (parts_agree u)
  parts_agree (products_one u) = simp (parts_agree u)
  parts_agree (products_more u o r) = simp (parts_agree u, parts_agree r)
  parts_agree (mult_of p) = parts_agree p
  parts_agree (sums_one m) = simp (parts_agree m)
  parts_agree (sums_more m o r) = simp (parts_agree m, parts_agree r)
  parts_agree (add_of s) = parts_agree s
  parts_agree (single a) = simp (parts_agree a)
  parts_agree (compare a o b) = simp (parts_agree a, parts_agree b)
  parts_agree (has_or_like a o b) = simp (parts_agree a, parts_agree b)
  parts_agree (is_type a o n) = simp (parts_agree a, parts_agree n)
  parts_agree (is_in a o n p b) = simp (parts_agree a, parts_agree n, parts_agree b)
  parts_agree (ands_one r) = simp (parts_agree r)
  parts_agree (ands_more r o m) = simp (parts_agree r, parts_agree m)
  parts_agree (ors_one a) = simp (parts_agree a)
  parts_agree (ors_more a o m) = simp (parts_agree a, parts_agree m)
  parts_agree (ors_expr o) = simp (parts_agree o)
  parts_agree (if_expr i c t a f b) = simp (parts_agree c, parts_agree a, parts_agree b)

  part_parts_agree : {k : PartKind} (t : Clause A k) → part_parts kind t ≡ part_parts kind' t
  part_parts_agree (variable_bare v) = refl
  part_parts_agree (variable_is v i n) = simp (parts_agree n)
  part_parts_agree (variable_op v o a) = simp (parts_agree a)
  part_parts_agree (variable_is_op v i n o a) = simp (parts_agree n, parts_agree a)
  part_parts_agree (cond_of k l e r) = simp (parts_agree e)
  part_parts_agree no_cond = refl
  part_parts_agree (conds_more c m) = simp (part_parts_agree c, part_parts_agree m)
  part_parts_agree (annotation_bare a k) = refl
  part_parts_agree (annotation_value a k l s r) = refl
  part_parts_agree no_annotation = refl
  part_parts_agree (annotations_more a m) = simp (part_parts_agree a, part_parts_agree m)
  part_parts_agree (policy_of ns e l p c a d r q cs s) = simp (
    part_parts_agree ns,
    part_parts_agree p,
    part_parts_agree a,
    part_parts_agree r,
    part_parts_agree cs,
  )

  policies_agree : (ps : List (Clause A policy)) → policy_trees kind ps ≡ policy_trees kind' ps
  policies_agree [] = refl
  policies_agree (p ∷ ps) = simp (part_parts_agree p, policies_agree ps)

  pub sets_agree : (ps : List (Clause A policy)) → set_tree kind ps ≡ set_tree kind' ps
  sets_agree ps = ap (λ f. branch Label.policies f none) (policies_agree ps)

pub label_is : (k : Kind) → literal_label k
    ≡ (if is K.Number k then Label.number else (if is K.Str k then Label.string else Label.boolean))
label_is K.Number = refl
label_is K.Str = refl
label_is _ = refl

-- a literal's label follows from its first byte
pub label_of_first_byte : (t : List ℕ) → literal_label (other_kind t) ≡ literal_label (kind_of t)
label_of_first_byte t =
    let number : is K.Number (kind_of t) ≡ is K.Number (other_kind t) =
    agrees (is K.Number) (λ t. is K.Number (other_kind t)) fixed_tokens t refl (λ h. refl) in
    let string : is K.Str (kind_of t) ≡ is K.Str (other_kind t) =
    agrees (is K.Str) (λ t. is K.Str (other_kind t)) fixed_tokens t refl (λ h. refl) in
    label_is (other_kind t)
    ∙ ap (λ b. if b then Label.number
    else (if is K.Str (other_kind t) then Label.string else Label.boolean)) (sym number)
    ∙ ap (λ b. if is K.Number (kind_of t) then Label.number
    else (if b then Label.string else Label.boolean)) (sym string)
    ∙ sym (label_is (kind_of t))
