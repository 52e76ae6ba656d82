use Rattle.std.proofs.Common.{ℕ, List}
use Rattle.cedar_tokens.specs.Listing.{Decorated}
use Rattle.cedar_grammar.specs.Placed.{Placed}
use Rattle.cedar_grammar.proofs.Texts.Grammars.{grammars_agree}
use Rattle.cedar_grammar.proofs.laws.grammars_agree.Goals as goal

pub returns-clause-texts : goal.returns-clause-texts
returns-clause-texts c = grammars_agree {A = List ℕ} (λ t. t)

pub returns-clause-decorated : goal.returns-clause-decorated
returns-clause-decorated c = grammars_agree {A = Decorated} (λ t. t.text)

pub returns-clause-placed : goal.returns-clause-placed
returns-clause-placed c = grammars_agree {A = Placed} (λ t. t.text)
