use Rattle.cedar_grammar.proofs.NodeLaws.{tree_of_nodes_is_unique}
use Rattle.cedar_grammar.proofs.tree_laws.tree_of_nodes_is_unique.Goals as goal

pub returns : goal.returns
returns c = tree_of_nodes_is_unique c.split_is_unique.ensures
