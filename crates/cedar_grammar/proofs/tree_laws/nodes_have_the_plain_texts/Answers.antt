use Rattle.cedar_grammar.proofs.NodeLaws.{nodes_have_the_plain_texts}
use Rattle.cedar_grammar.proofs.tree_laws.nodes_have_the_plain_texts.Goals as goal

pub returns : goal.returns
returns c = nodes_have_the_plain_texts c.split_is_unique.ensures
