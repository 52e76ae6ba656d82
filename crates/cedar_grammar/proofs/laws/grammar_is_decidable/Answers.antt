use Rattle.cedar_tokens.specs.TokenKinds.{kind_of}
use Rattle.cedar_grammar.specs.Placed.{kind_of_placed}
use Rattle.cedar_grammar.specs.Laws.{kind_of_decorated}
use Rattle.cedar_grammar.proofs.Trees.Laws.{grammar_is_decidable}
use Rattle.cedar_grammar.proofs.laws.grammar_is_decidable.Goals as goal

pub returns-clause-texts : goal.returns-clause-texts
returns-clause-texts c = grammar_is_decidable kind_of

pub returns-clause-decorated : goal.returns-clause-decorated
returns-clause-decorated c = grammar_is_decidable kind_of_decorated

pub returns-clause-placed : goal.returns-clause-placed
returns-clause-placed c = grammar_is_decidable kind_of_placed
