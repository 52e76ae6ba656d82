use Rattle.std.proofs.Common.{sym, ap}
use Rattle.cedar_grammar.proofs.Views.{view_unary}
use Rattle.cedar_cst.proofs.nodes.unary_node.Goals as goal

pub returns-clause-made : goal.returns-clause-made
returns-clause-made c =
    let item = c.into_inner-item.result in
    rw (
      c.branch-item.ensures,
      c.in_ok-item.is,
      c.in_ok-new.ensures.ok,
      sym c.into_inner-item.ensures,
    ) (
      view_unary c.args.op item,
      ap (λ z. record { start = z; end = item.span.end }) c.signed_start-start.ensures,
    )
