use Rattle.cedar_grammar.specs.declared.tree.Node.{Node}
use Rattle.cedar_cst.proofs.Ends.{ends_some}
use Rattle.cedar_cst.proofs.nodes.signed_end.Goals as goal

pub returns-in-Some : goal.returns-in-Some
returns-in-Some g c = ends_some (λ (x : g.row.S.Denot × Node g.row.T.Denot). x.1) _ _
    c.in-Some.field-0.now c.in-Some.ensures.item.3.0 c.in-Some.ensures.value
