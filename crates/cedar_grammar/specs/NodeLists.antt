-- The trees of nodes in lists, matching what the recursive definition of the trees says about the contents of nodes.
use Rattle.std.specs.Prelude.{ℕ, List, [], ◌∷◌, codes}
use Rattle.cedar_tokens.specs.declared.token.Span.{Span}
use Rattle.cedar_grammar.specs.Trees.{Label, none, leaf}
use Rattle.cedar_grammar.specs.declared.tree.Node.{Node}
use Rattle.cedar_grammar.specs.declared.tree.And as And
use Rattle.cedar_grammar.specs.declared.tree.Member as Member
use Rattle.cedar_grammar.specs.declared.tree.MemAccess as MemAccess
use Rattle.cedar_grammar.specs.declared.tree.Primary as Primary
use Rattle.cedar_grammar.specs.declared.tree.RecInit as RecInit
use Rattle.cedar_grammar.specs.Erased.{Erased, node, expr_parts, relation_parts, access_parts, primary_parts}

-- operands after their signs
abbrev pub operand_trees : {X Y : Type 0} → Label → (X → Erased) → (Y → List ℕ) → (Y → Node X) → List Y → Erased
operand_trees l parts sign operand [] = none
operand_trees l parts sign operand (y ∷ ys) = leaf (sign y) (node l (operand y).span (parts (operand y).inner) (operand_trees l parts sign operand ys))

-- items after their commas
abbrev pub more_trees : {X : Type 0} → Label → (X → Erased) → List (Node X) → Erased
more_trees l parts [] = none
more_trees l parts (n ∷ ns) = leaf (codes ",") (node l n.span (parts n.inner) (more_trees l parts ns))

-- items with commas between them
abbrev pub item_trees : {X : Type 0} → Label → (X → Erased) → List (Node X) → Erased
item_trees l parts [] = none
item_trees l parts (n ∷ ns) = node l n.span (parts n.inner) (more_trees l parts ns)

-- accesses in a row
abbrev pub access_items : List (Node MemAccess.MemAccess) → Erased
access_items [] = none
access_items (n ∷ ns) = node Label.access n.span (access_parts n.inner) (access_items ns)

-- a relation, and more after `&&`
abbrev pub and_parts : And.And → Erased
and_parts a = node Label.relation a.initial.span (relation_parts a.initial.inner) (operand_trees Label.relation relation_parts (λ _. codes "&&") (λ n. n) a.extended.items)

-- a primary and what is accessed in it
abbrev pub member_parts : Member.Member → Erased
member_parts m = node Label.primary m.item.span (primary_parts m.item.inner) (access_items m.access.items)

-- a key and a value
abbrev pub init_parts : RecInit.RecInit → Erased
init_parts r = node Label.primary r.key.span (primary_parts r.key.inner) (leaf (codes ":") (node Label.expr r.value.span (expr_parts r.value.inner) none))

-- an operand that is a primary and what is accessed in it
abbrev pub operand_parts : Span → Node Primary.Primary → List (Node MemAccess.MemAccess) → Erased
operand_parts s item access = node Label.mult s (node Label.unary s (node Label.member s (node Label.primary item.span (primary_parts item.inner) (access_items access)) none) none) none
