-- Nodes of operands, viewed as a first operand and a list of signs and operands.
use Rattle.std.proofs.Common.{◌≡◌, sym, ap, ◌∙◌}
use Rattle.cedar_grammar.specs.Trees.{Label}
use Rattle.cedar_grammar.specs.Erased.{node, add_parts, mult_parts, or_parts, or_rest, primary_parts, relation_parts, sign_leaves, unary_parts}
use Rattle.cedar_grammar.specs.Trees.{none}
use Rattle.cedar_grammar.specs.NodeLists.{access_items, and_parts, member_parts}
use Rattle.cedar_grammar.specs.declared.tree.Add as Add
use Rattle.cedar_grammar.specs.declared.tree.Mult as Mult
use Rattle.cedar_grammar.specs.declared.tree.Or as Or
use Rattle.cedar_grammar.specs.declared.tree.Unary as Unary
use Rattle.cedar_grammar.specs.declared.tree.Expr.TheBlock.{shown-the_row-And-extended-2-3, items_shown-the_row-And-extended-2-3, items_shown-the_row-Or-extended-2-6, items_shown-the_row-Add-extended-4-2, items_shown-the_row-Mult-extended-4-5, items_shown-the_row-Member-access-2-4}
use Rattle.cedar_grammar.specs.declared.tree.Expr.TheViews.{out-Or, out-Add, out-Mult, out-Unary}
use Rattle.cedar_grammar.proofs.Views.{access_row, add_items, add_row, and_items, and_row, mult_items, mult_row, or_row, relation_items}

pub mult_view : (m : Mult.Mult) → mult_parts m ≡ node Label.unary (out-Mult m).initial.span
    (unary_parts (out-Mult m).initial.inner) (mult_items (out-Mult m).extended.items)
unfolding out-Mult denote.Hole.Carrier.out
mult_view (Mult.Mult' u s v row) = ap (λ z. node Label.unary s (unary_parts u) z)
    (mult_row _ row ∙ ap mult_items (sym (items_shown-the_row-Mult-extended-4-5 v row)))

pub add_view : (m : Add.Add) → add_parts m ≡ node Label.mult (out-Add m).initial.span (mult_parts
    (out-Add m).initial.inner) (add_items (out-Add m).extended.items)
unfolding out-Add denote.Hole.Carrier.out
add_view (Add.Add' m s v row) = ap (λ z. node Label.mult s (mult_parts m) z)
    (add_row _ row ∙ ap add_items (sym (items_shown-the_row-Add-extended-4-2 v row)))

pub or_view : (m : Or.Or) → or_parts m ≡ node Label.and (out-Or m).initial.span (and_parts
    (out-Or m).initial.inner) (and_items (out-Or m).extended.items)
unfolding out-Or denote.Hole.Carrier.out
or_view (Or.Or' r s v row t w rest) =
    ap (λ z. node Label.and t (node Label.relation s (relation_parts r) z) (or_rest rest))
    (and_row _ row ∙ ap relation_items (sym (items_shown-the_row-And-extended-2-3 v row)))
    ∙ ap (λ z. node Label.and t (node Label.relation s (relation_parts r)
    (relation_items (shown-the_row-And-extended-2-3 v row).items)) z) (or_row _ rest
    ∙ ap and_items (sym (items_shown-the_row-Or-extended-2-6 w rest)))

-- a unary viewed as its signs and its member
pub unary_view : (u : Unary.Unary) → unary_parts u ≡ sign_leaves (out-Unary u).op (node
    Label.member (out-Unary u).item.span (member_parts (out-Unary u).item.inner) none)
unfolding out-Unary denote.Hole.Carrier.out
unary_view (Unary.Unary' op p s v row t) =
    ap (λ z. sign_leaves op (node Label.member t (node Label.primary s (primary_parts p) z) none))
    (access_row _ row ∙ ap access_items (sym (items_shown-the_row-Member-access-2-4 v row)))
