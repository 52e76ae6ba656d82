use Rattle.cedar_tokens.proofs.Scanning.{split_unique}
use Rattle.cedar_tokens.proofs.laws.split_is_unique.Goals as goal

pub returns : goal.returns
returns c = split_unique
