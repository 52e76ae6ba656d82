use Rattle.std.proofs.Common.{refl}
use Rattle.cedar_grammar.proofs.Views.{view_call}
use Rattle.cedar_cst.proofs.nodes.call_node.Goals as goal

pub returns-clause-made : goal.returns-clause-made
returns-clause-made c = rw (c.branch-arguments.ensures, c.in_ok-arguments.is)
    (view_call c.in_ok-arguments.arguments, refl)
