use Rattle.std.proofs.Common.{ℕ, List}
use Rattle.cedar_tokens.specs.Listing.{Decorated}
use Rattle.cedar_grammar.specs.Placed.{Placed}
use Rattle.cedar_grammar.proofs.Texts.Grammars.{texts_are_tokens}
use Rattle.cedar_grammar.proofs.laws.texts_are_tokens.Goals as goal

pub returns-clause-texts : goal.returns-clause-texts
returns-clause-texts c = texts_are_tokens {A = List ℕ} (λ t. t)

pub returns-clause-decorated : goal.returns-clause-decorated
returns-clause-decorated c = texts_are_tokens {A = Decorated} (λ t. t.text)

pub returns-clause-placed : goal.returns-clause-placed
returns-clause-placed c = texts_are_tokens {A = Placed} (λ t. t.text)
