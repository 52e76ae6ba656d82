use Rattle.cedar_tokens.specs.TokenKinds.{kind_of}
use Rattle.cedar_grammar.specs.Placed.{kind_of_placed}
use Rattle.cedar_grammar.specs.Laws.{kind_of_decorated}
use Rattle.cedar_grammar.proofs.Trees.Laws.{deeper_has_more}
use Rattle.cedar_grammar.proofs.laws.deeper_has_more.Goals as goal

pub returns-clause-texts : goal.returns-clause-texts
returns-clause-texts c = deeper_has_more kind_of

pub returns-clause-decorated : goal.returns-clause-decorated
returns-clause-decorated c = deeper_has_more kind_of_decorated

pub returns-clause-placed : goal.returns-clause-placed
returns-clause-placed c = deeper_has_more kind_of_placed
