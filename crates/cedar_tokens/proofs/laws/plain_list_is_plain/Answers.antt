use Rattle.cedar_tokens.proofs.PlainTwice.{plain_twice}
use Rattle.cedar_tokens.proofs.laws.plain_list_is_plain.Goals as goal

pub returns : goal.returns
returns c = plain_twice
