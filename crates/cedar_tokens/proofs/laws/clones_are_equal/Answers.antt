use Rattle.cedar_tokens.proofs.Equality.{token_clones, comment_clones, wrapped_clones}
use Rattle.cedar_tokens.proofs.laws.clones_are_equal.Goals as goal

pub returns-clause-tokens : goal.returns-clause-tokens
returns-clause-tokens c = token_clones

pub returns-clause-comments : goal.returns-clause-comments
returns-clause-comments c = comment_clones

pub returns-clause-wrapped : goal.returns-clause-wrapped
returns-clause-wrapped c = wrapped_clones
