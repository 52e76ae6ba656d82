use Rattle.cedar_tokens.specs.TokenKinds.{kind_of}
use Rattle.cedar_grammar.specs.Placed.{kind_of_placed}
use Rattle.cedar_grammar.specs.Laws.{kind_of_decorated}
use Rattle.cedar_grammar.proofs.Plain.CommaPairs.{plain_is_plain}
use Rattle.cedar_grammar.proofs.laws.plain_is_plain.Goals as goal

pub returns-clause-texts : goal.returns-clause-texts
returns-clause-texts c = plain_is_plain kind_of

pub returns-clause-decorated : goal.returns-clause-decorated
returns-clause-decorated c = plain_is_plain kind_of_decorated

pub returns-clause-placed : goal.returns-clause-placed
returns-clause-placed c = plain_is_plain kind_of_placed
