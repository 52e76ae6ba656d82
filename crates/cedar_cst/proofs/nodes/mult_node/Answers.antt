use Rattle.std.proofs.Common.{sym, ap, ◌∙◌}
use Rattle.cedar_cst.specs.ReadingExprs.{end_of_last}
use Rattle.cedar_grammar.specs.declared.tree.Node.{Node}
use Rattle.cedar_grammar.specs.declared.tree.MultOp.{MultOp}
use Rattle.cedar_grammar.specs.declared.tree.Unary as Unary
use Rattle.cedar_grammar.proofs.Views.{view_mult}
use Rattle.cedar_cst.proofs.nodes.mult_node.Goals as goal

pub returns : goal.returns
returns c =
    let first = c.into_inner-initial.result in
    rw (c.in_ok-new.ensures.ok, sym c.into_inner-initial.ensures) (
      view_mult first c.args.extended,
      c.to-span.ensures ∙ ap (λ z. record { start = first.span.start; end = z })
          (c.signed_end-end.ensures ∙ ap (end_of_last
          (λ (x : MultOp × Node Unary.Unary). x.1) first.span.end) c.deref.ensures.value),
    )
