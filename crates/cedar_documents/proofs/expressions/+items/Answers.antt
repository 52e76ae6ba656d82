use Rattle.std.proofs.Common.{arith, ap, ◌∙◌, sym, ◌++◌, [], ◌∷◌, codes}
use Rattle.std.proofs.lemmas.Result.{on_ok_weaker}
use Rattle.cedar_grammar.specs.Trees.{Label, none, leaf, join}
use Rattle.cedar_grammar.specs.Erased.{access_parts, expr_parts, primary_parts, variant}
use Rattle.cedar_grammar.specs.NodeLists.{init_parts, item_trees}
use Rattle.cedar_grammar.specs.declared.tree.Expr.TheViews.{out-Or, out-Add, out-Mult, out-Unary}
use Rattle.cedar_grammar.proofs.Views.{add_items, and_items, mult_items, view_call, view_list, view_record}
use Rattle.cedar_documents.specs.Items.{at, items_of, signs}
use Rattle.cedar_documents.proofs.Listing.{begin_row, enclosed, ended, seen, seen_variant, unary_done}
use Rattle.cedar_documents.proofs.Operands.{or_view, add_view, mult_view, unary_view}
use Rattle.cedar_documents.proofs.expressions.+items.Goals as goal

pub list_or-loop-operand-init : goal.list_or-loop-operand-init
list_or-loop-operand-init _ c = begin_row _ _ (and_items (out-Or
    c.args.or.now.inner).extended.items) _
    c.in_ok-put.ensures c.in_ok-list_and.ensures (or_view c.args.or.now.inner)

pub list_add-loop-op-init : goal.list_add-loop-op-init
list_add-loop-op-init _ c = begin_row _ _ (add_items (out-Add c.args.add.now.inner).extended.items)
    _
    c.in_ok-put.ensures c.in_ok-list_mult.ensures (add_view c.args.add.now.inner)

pub list_mult-loop-operand-init : goal.list_mult-loop-operand-init
list_mult-loop-operand-init _ c = begin_row _ _ (mult_items (out-Mult
    c.args.mult.now.inner).extended.items) _
    c.in_ok-put.ensures c.in_ok-list_unary.ensures (mult_view c.args.mult.now.inner)

pub list_unary-returns : goal.list_unary-returns
list_unary-returns _ c =
    let u = out-Unary c.args.unary.now.inner in
    on_ok_weaker c.list_member.result (λ e. unary_done _ c.args.unary.now.span u.op u.item.span _ _
    c.in_ok-put.ensures (c.in_ok-put-2.ensures ∙ ap (λ n. items_of c.put.new.out.items
    ++ signs n c.args.unary.now.span.start u.item.span.start ∷ []) c.sign_count.ensures)
    c.in_ok-list_signs.ensures e (unary_view c.args.unary.now.inner)) c.list_member.ensures

pub list_access-returns-after-loop-argument : goal.list_access-returns-after-loop-argument
list_access-returns-after-loop-argument _ c =
    let k = c.loop-argument in
    let all = ended Label.expr expr_parts k.is_first c.deref-argument-items.result.now
    k.argument-index (items_of k.out.items)
    (omega arith) k.invariant in
    on_ok_weaker c.put-in-Call-2.result (λ e. enclosed _ (at _) (codes "(") (codes ")")
    (item_trees Label.expr expr_parts c.deref-argument-items.result.now) c.in_ok-put.ensures
    c.in_ok-put-in-Call.ensures all e
    ∙ seen (items_of c.args.out.now.items) (at c.args.access.now.span.start)
    (access_parts c.args.access.now.inner) (ap access_parts c.in-Call.is ∙ view_call
    c.in-Call.arguments
    ∙ ap (λ ns. leaf (codes "(") (join (item_trees Label.expr expr_parts ns) (leaf (codes ")")
    none)))
    (sym c.deref-argument-items.ensures.value))) c.put-in-Call-2.ensures

pub list_primary-returns-after-loop-item : goal.list_primary-returns-after-loop-item
list_primary-returns-after-loop-item _ c =
    let k = c.loop-item in
    let all = ended Label.expr expr_parts k.is_first c.deref-item-items.result.now k.item-index
    (items_of k.out.items)
    (omega arith) k.invariant in
    on_ok_weaker c.put-in-EList-2.result (λ e. enclosed _ (at _) (codes "[") (codes "]")
    (item_trees Label.expr expr_parts c.deref-item-items.result.now) c.in_ok-put.ensures
    c.in_ok-put-in-EList.ensures all e
    ∙ seen_variant (items_of c.args.out.now.items) (at c.args.primary.now.span.start) Label.list
    (primary_parts c.args.primary.now.inner) (ap primary_parts c.in-EList.is ∙ view_list
    c.in-EList.items
    ∙ ap (λ ns. variant Label.list (leaf (codes "[") (join (item_trees Label.expr expr_parts ns)
    (leaf (codes "]") none))) none)
    (sym c.deref-item-items.ensures.value))) c.put-in-EList-2.ensures

pub list_primary-returns-after-loop-init : goal.list_primary-returns-after-loop-init
list_primary-returns-after-loop-init _ c =
    let k = c.loop-init in
    let all = ended Label.rec_init init_parts k.is_first c.deref-init-items.result.now k.init-index
    (items_of k.out.items)
    (omega arith) k.invariant in
    on_ok_weaker c.put-in-RInits-2.result (λ e. enclosed _ (at _) (codes "{") (codes "}")
    (item_trees Label.rec_init init_parts c.deref-init-items.result.now) c.in_ok-put.ensures
    c.in_ok-put-in-RInits.ensures all e
    ∙ seen_variant (items_of c.args.out.now.items) (at c.args.primary.now.span.start) Label.fields
    (primary_parts c.args.primary.now.inner) (ap primary_parts c.in-RInits.is ∙ view_record
    c.in-RInits.inits
    ∙ ap (λ ns. variant Label.fields (leaf (codes "{") (join (item_trees Label.rec_init init_parts
    ns) (leaf (codes "}") none))) none)
    (sym c.deref-init-items.ensures.value))) c.put-in-RInits-2.ensures
