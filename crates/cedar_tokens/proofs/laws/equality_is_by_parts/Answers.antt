use Rattle.cedar_tokens.proofs.Equality.{tokens, comments, wrapped}
use Rattle.cedar_tokens.proofs.laws.equality_is_by_parts.Goals as goal

pub returns-clause-tokens : goal.returns-clause-tokens
returns-clause-tokens c = tokens

pub returns-clause-comments : goal.returns-clause-comments
returns-clause-comments c = comments

pub returns-clause-wrapped : goal.returns-clause-wrapped
returns-clause-wrapped c = wrapped
