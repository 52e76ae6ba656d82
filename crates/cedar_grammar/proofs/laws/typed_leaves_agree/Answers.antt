use Rattle.cedar_tokens.specs.TokenKinds.{kind_of}
use Rattle.cedar_grammar.specs.Placed.{kind_of_placed}
use Rattle.cedar_grammar.specs.Laws.{kind_of_decorated}
use Rattle.cedar_grammar.proofs.Trees.Laws.{typed_leaves_agree}
use Rattle.cedar_grammar.proofs.laws.typed_leaves_agree.Goals as goal

pub returns-clause-texts : goal.returns-clause-texts
returns-clause-texts c = typed_leaves_agree kind_of

pub returns-clause-decorated : goal.returns-clause-decorated
returns-clause-decorated c = typed_leaves_agree kind_of_decorated

pub returns-clause-placed : goal.returns-clause-placed
returns-clause-placed c = typed_leaves_agree kind_of_placed
