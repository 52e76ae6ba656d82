use Rattle.std.proofs.Common.{sym, ap, ◌∙◌}
use Rattle.cedar_cst.specs.ReadingExprs.{end_of_last}
use Rattle.cedar_grammar.specs.declared.tree.Node.{Node}
use Rattle.cedar_grammar.specs.declared.tree.And as And
use Rattle.cedar_grammar.proofs.Views.{view_or}
use Rattle.cedar_cst.proofs.nodes.or_node.Goals as goal

pub returns : goal.returns
returns c =
    let first = c.into_inner-initial.result in
    rw (c.in_ok-new.ensures.ok, sym c.into_inner-initial.ensures) (
      view_or first c.args.extended,
      c.to-span.ensures
          ∙ ap (λ z. record { start = first.span.start; end = z }) (c.nodes_end-end.ensures
          ∙ ap (end_of_last (λ (n : Node And.And). n) first.span.end) c.deref.ensures.value),
    )
