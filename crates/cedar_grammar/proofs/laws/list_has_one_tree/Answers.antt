use Rattle.cedar_tokens.specs.TokenKinds.{kind_of}
use Rattle.cedar_grammar.specs.Placed.{kind_of_placed}
use Rattle.cedar_grammar.specs.Laws.{kind_of_decorated}
use Rattle.cedar_grammar.proofs.Trees.Laws.{list_has_one_tree}
use Rattle.cedar_grammar.proofs.laws.list_has_one_tree.Goals as goal

pub returns-clause-texts : goal.returns-clause-texts
returns-clause-texts c = list_has_one_tree kind_of

pub returns-clause-decorated : goal.returns-clause-decorated
returns-clause-decorated c = list_has_one_tree kind_of_decorated

pub returns-clause-placed : goal.returns-clause-placed
returns-clause-placed c = list_has_one_tree kind_of_placed
