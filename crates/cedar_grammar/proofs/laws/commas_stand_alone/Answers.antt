use Rattle.cedar_tokens.specs.TokenKinds.{kind_of}
use Rattle.cedar_grammar.specs.Placed.{kind_of_placed}
use Rattle.cedar_grammar.specs.Laws.{kind_of_decorated}
use Rattle.cedar_grammar.proofs.Plain.CommaPairs.{commas_stand_alone}
use Rattle.cedar_grammar.proofs.laws.commas_stand_alone.Goals as goal

pub returns-clause-texts : goal.returns-clause-texts
returns-clause-texts c = commas_stand_alone kind_of

pub returns-clause-decorated : goal.returns-clause-decorated
returns-clause-decorated c = commas_stand_alone kind_of_decorated

pub returns-clause-placed : goal.returns-clause-placed
returns-clause-placed c = commas_stand_alone kind_of_placed
