use Rattle.cedar_grammar.proofs.NodeLaws.{tree_is_of_accepted}
use Rattle.cedar_grammar.proofs.tree_laws.tree_is_of_accepted.Goals as goal

pub returns : goal.returns
returns c = tree_is_of_accepted
