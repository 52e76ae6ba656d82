-- Each node inside a typed tree is a typed tree itself.
use Rattle.std.proofs.Common.{◌≡◌, List, [], ◌∷◌, refl}
use Rattle.std.specs.Prelude.{⊤}
use Rattle.cedar_grammar.specs.Trees.{Label, Forest, none, leaf, branch, join}
use Rattle.cedar_grammar.specs.TypedTrees.{Tree, Clause, literal_label, parts, part_parts, policy_trees, name_one, name_more, ref_of, args_one, args_more, init_of, inits_one, inits_more, literal, slot, reference, named, parens, list_empty, list_of, record_empty, record_of, no_access, field, call_empty, call, index, member_of, unsigned, signed, products_one, products_more, mult_of, sums_one, sums_more, add_of, single, compare, has_or_like, is_type, is_in, ands_one, ands_more, ors_one, ors_more, ors_expr, if_expr, variable_bare, variable_is, variable_op, variable_is_op, cond_of, no_cond, conds_more, annotation_bare, annotation_value, no_annotation, annotations_more, policy_of}
use Rattle.cedar_grammar.specs.TypedTrees as kind
use Rattle.cedar_tokens.specs.declared.kind.Kind.{Kind}
use Rattle.cedar_tokens.specs.declared.kind.Kind.TheVariants as K
use Rattle.cedar_layout.specs.Lookups.{Shown}
use Rattle.cedar_documents.proofs.ShownTrees.{kind_of_shown}

-- these are the parts of a typed tree; of a typed part of a policy; of one token
abbrev pub OfTree : kind.NodeKind → Forest Label Shown → Type 0
OfTree k f = (t : Tree Shown k) × (f ≡ parts kind_of_shown t)

abbrev pub OfPart : kind.PartKind → Forest Label Shown → Type 0
OfPart k f = (t : Clause Shown k) × (f ≡ part_parts kind_of_shown t)

abbrev pub OfToken : Forest Label Shown → Type 0
OfToken f = (x : Shown) × (f ≡ leaf x none)

-- which of these are the parts of a node with this label
abbrev pub IsTyped : Label → Forest Label Shown → Type 0
IsTyped Label.policy f = OfPart kind.policy f
IsTyped Label.annotation f = OfPart kind.annotation f
IsTyped Label.variable f = OfPart kind.variable f
IsTyped Label.condition f = OfPart kind.cond f
IsTyped Label.expr f = OfTree kind.expr f
IsTyped Label.or f = OfTree kind.ors f
IsTyped Label.and f = OfTree kind.ands f
IsTyped Label.relation f = OfTree kind.relation f
IsTyped Label.add f = OfTree kind.add f
IsTyped Label.mult f = OfTree kind.mult f
IsTyped Label.unary f = OfTree kind.unary f
IsTyped Label.member f = OfTree kind.member f
IsTyped Label.access f = OfTree kind.accesses (branch Label.access f none)
IsTyped Label.primary f = OfTree kind.primary f
IsTyped Label.rec_init f = OfTree kind.init f
IsTyped Label.name f = OfTree kind.name f
IsTyped Label.ref f = OfTree kind.ref f
IsTyped Label.ident f = OfToken f
IsTyped Label.str f = OfToken f
IsTyped Label.boolean f = OfToken f
IsTyped Label.number f = OfToken f
IsTyped Label.string f = OfToken f
IsTyped Label.slot f = OfToken f
IsTyped l f = ⊤

-- the same for every node of these trees
abbrev pub AreTyped : Forest Label Shown → Type 0
AreTyped none = ⊤
AreTyped (leaf x f) = AreTyped f
AreTyped (branch l f g) = IsTyped l f × AreTyped f × AreTyped g

joined : (f g : Forest Label Shown) → AreTyped f → AreTyped g → AreTyped (join f g)
joined none g s t = t
joined (leaf x f) g s t = joined f g s t
joined (branch l f h) g s t = (s.0, s.1, joined h g s.2 t)

literal_typed : (k : Kind) (x : Shown) → IsTyped (literal_label k) (leaf x none)
literal_typed K.Number x = (x, refl)
literal_typed K.Str x = (x, refl)
literal_typed _ x = (x, refl)

pub typed_tree : {k : kind.NodeKind} (t : Tree Shown k) → AreTyped (parts kind_of_shown t)
typed_tree (name_one x) = ((x, refl), tt, tt)
typed_tree (name_more x c r) = ((x, refl), tt, typed_tree r)
typed_tree (ref_of n c s) = ((n, refl), typed_tree n, ((s, refl), tt, tt))
typed_tree (args_one e) = ((e, refl), typed_tree e, tt)
typed_tree (args_more e c r) = ((e, refl), typed_tree e, typed_tree r)
typed_tree (init_of k c v) = ((k, refl), typed_tree k, ((v, refl), typed_tree v, tt))
typed_tree (inits_one e) = ((e, refl), typed_tree e, tt)
typed_tree (inits_more e c r) = ((e, refl), typed_tree e, typed_tree r)
typed_tree (literal x) = (literal_typed (kind_of_shown x) x, tt, tt)
typed_tree (slot x) = ((x, refl), tt, tt)
typed_tree (reference r) = ((r, refl), typed_tree r, tt)
typed_tree (named n) = ((n, refl), typed_tree n, tt)
typed_tree (parens l e r) = (tt, ((e, refl), typed_tree e, tt), tt)
typed_tree (list_empty l r) = (tt, tt, tt)
typed_tree (list_of l a r) =
    (tt, joined (parts kind_of_shown a) (leaf r none) (typed_tree a) tt, tt)
typed_tree (record_empty l r) = (tt, tt, tt)
typed_tree (record_of l a r) =
    (tt, joined (parts kind_of_shown a) (leaf r none) (typed_tree a) tt, tt)
typed_tree no_access = tt
typed_tree (field d x m) = ((field d x no_access, refl), ((x, refl), tt, tt), typed_tree m)
typed_tree (call_empty l r m) = ((call_empty l r no_access, refl), tt, typed_tree m)
typed_tree (call l a r m) = (
  (call l a r no_access, refl),
  joined (parts kind_of_shown a) (leaf r none) (typed_tree a) tt,
  typed_tree m,
)
typed_tree (index l x r m) = ((index l x r no_access, refl), ((x, refl), tt, tt), typed_tree m)
typed_tree (member_of p m) = ((p, refl), typed_tree p, typed_tree m)
typed_tree (unsigned m) = ((m, refl), typed_tree m, tt)
typed_tree (signed s u) = typed_tree u
typed_tree (products_one u) = ((u, refl), typed_tree u, tt)
typed_tree (products_more u o r) = ((u, refl), typed_tree u, typed_tree r)
typed_tree (mult_of p) = typed_tree p
typed_tree (sums_one m) = ((m, refl), typed_tree m, tt)
typed_tree (sums_more m o r) = ((m, refl), typed_tree m, typed_tree r)
typed_tree (add_of s) = typed_tree s
typed_tree (single a) = ((a, refl), typed_tree a, tt)
typed_tree (compare a o b) = ((a, refl), typed_tree a, (tt, ((b, refl), typed_tree b, tt), tt))
typed_tree (has_or_like a o b) = ((a, refl), typed_tree a, (tt, ((b, refl), typed_tree b, tt), tt))
typed_tree (is_type a o n) = ((a, refl), typed_tree a, (tt, ((n, refl), typed_tree n, tt), tt))
typed_tree (is_in a o n p b) =
    ((a, refl), typed_tree a, (tt, ((n, refl), typed_tree n, ((b, refl), typed_tree b, tt)), tt))
typed_tree (ands_one r) = ((r, refl), typed_tree r, tt)
typed_tree (ands_more r o m) = ((r, refl), typed_tree r, typed_tree m)
typed_tree (ors_one a) = ((a, refl), typed_tree a, tt)
typed_tree (ors_more a o m) = ((a, refl), typed_tree a, typed_tree m)
typed_tree (ors_expr o) = ((o, refl), typed_tree o, tt)
typed_tree (if_expr i c t a f b) =
    ((c, refl), typed_tree c, ((a, refl), typed_tree a, ((b, refl), typed_tree b, tt)))

pub typed_part : {k : kind.PartKind} (t : Clause Shown k) → AreTyped (part_parts kind_of_shown t)
typed_part (variable_bare v) = ((v, refl), tt, tt)
typed_part (variable_is v i n) = ((v, refl), tt, ((n, refl), typed_tree n, tt))
typed_part (variable_op v o a) = ((v, refl), tt, ((a, refl), typed_tree a, tt))
typed_part (variable_is_op v i n o a) =
    ((v, refl), tt, ((n, refl), typed_tree n, ((a, refl), typed_tree a, tt)))
typed_part (cond_of k l e r) = ((k, refl), tt, ((e, refl), typed_tree e, tt))
typed_part no_cond = tt
typed_part (conds_more c m) = ((c, refl), typed_part c, typed_part m)
typed_part (annotation_bare a k) = ((k, refl), tt, tt)
typed_part (annotation_value a k l s r) = ((k, refl), tt, ((s, refl), tt, tt))
typed_part no_annotation = tt
typed_part (annotations_more a m) = ((a, refl), typed_part a, typed_part m)
typed_part (policy_of ns e l p c a d r q cs s) =
    joined (part_parts kind_of_shown ns) _ (typed_part ns)
    ((e, refl), tt, ((p, refl), typed_part p, ((a, refl), typed_part a, ((r, refl), typed_part r, joined (part_parts kind_of_shown cs) (leaf s none) (typed_part cs) tt))))

-- policies in a row
pub typed_policies : (ps : List (Clause Shown kind.policy))
    → AreTyped (policy_trees kind_of_shown ps)
typed_policies [] = tt
typed_policies (p ∷ ps) = ((p, refl), typed_part p, typed_policies ps)
