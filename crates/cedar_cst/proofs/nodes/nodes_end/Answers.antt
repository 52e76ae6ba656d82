use Rattle.cedar_cst.proofs.Ends.{ends_some}
use Rattle.cedar_cst.proofs.nodes.nodes_end.Goals as goal

pub returns-in-Some : goal.returns-in-Some
returns-in-Some g c = ends_some (λ n. n) _ _ _ c.in-Some.ensures.item.3.0 c.in-Some.ensures.value
