use Rattle.std.proofs.Common.{◌≡◌, ◌∷◌, ◌++◌, drop}
use Rattle.cedar_grammar.specs.Trees.{Label}
use Rattle.cedar_grammar.specs.Erased.{or_parts, add_parts, mult_parts, expr_parts}
use Rattle.cedar_grammar.specs.NodeLists.{access_items, and_parts, init_parts, item_trees, member_parts}
use Rattle.cedar_grammar.specs.declared.tree.Expr.TheViews.{out-Or, out-Add, out-Mult}
use Rattle.cedar_grammar.proofs.Views.{and_items, relation_items, add_items, mult_items}
use Rattle.cedar_documents.specs.Items.{at, items_of, listed}
use Rattle.cedar_documents.proofs.Listing.{left}
use Rattle.cedar_documents.proofs.expressions.+items.Given as goal

-- In each loop, what is listed and what is to come is the whole.

abbrev pub invariant-list_or-loop-operand : goal.invariant-list_or-loop-operand
invariant-list_or-loop-operand l = items_of l.out.items
    ++ listed (and_items (drop l.operand-index (out-Or l.or.inner).extended.items))
    ≡ items_of l.fn.out.items ++ at l.or.span.start ∷ listed (or_parts l.or.inner)

abbrev pub invariant-list_and-loop-operand : goal.invariant-list_and-loop-operand
invariant-list_and-loop-operand l = items_of l.out.items
    ++ listed (relation_items (drop l.operand-index l.and.inner.extended.items))
    ≡ items_of l.fn.out.items ++ at l.and.span.start ∷ listed (and_parts l.and.inner)

abbrev pub invariant-list_add-loop-op : goal.invariant-list_add-loop-op
invariant-list_add-loop-op l = items_of l.out.items
    ++ listed (add_items (drop l.op-index (out-Add l.add.inner).extended.items))
    ≡ items_of l.fn.out.items ++ at l.add.span.start ∷ listed (add_parts l.add.inner)

abbrev pub invariant-list_mult-loop-operand : goal.invariant-list_mult-loop-operand
invariant-list_mult-loop-operand l = items_of l.out.items
    ++ listed (mult_items (drop l.operand-index (out-Mult l.mult.inner).extended.items))
    ≡ items_of l.fn.out.items ++ at l.mult.span.start ∷ listed (mult_parts l.mult.inner)

abbrev pub invariant-list_parts-loop-access : goal.invariant-list_parts-loop-access
invariant-list_parts-loop-access l = items_of l.out.items
    ++ listed (access_items (drop l.access-index l.member.access.items))
    ≡ items_of l.fn.out.items ++ listed (member_parts l.member)

abbrev pub invariant-list_access-loop-argument : goal.invariant-list_access-loop-argument
invariant-list_access-loop-argument l = items_of l.out.items
    ++ listed (left Label.expr expr_parts l.is_first (drop l.argument-index l.argument-items))
    ≡ items_of l.initial.out.items ++ listed (item_trees Label.expr expr_parts l.argument-items)

abbrev pub invariant-list_primary-loop-item : goal.invariant-list_primary-loop-item
invariant-list_primary-loop-item l = items_of l.out.items
    ++ listed (left Label.expr expr_parts l.is_first (drop l.item-index l.item-items))
    ≡ items_of l.initial.out.items ++ listed (item_trees Label.expr expr_parts l.item-items)

abbrev pub invariant-list_primary-loop-init : goal.invariant-list_primary-loop-init
invariant-list_primary-loop-init l = items_of l.out.items
    ++ listed (left Label.rec_init init_parts l.is_first (drop l.init-index l.init-items))
    ≡ items_of l.initial.out.items ++ listed (item_trees Label.rec_init init_parts l.init-items)
