use Rattle.cedar_tokens.proofs.Scanning.{fault_prevents}
use Rattle.cedar_tokens.proofs.readers.TokenReader.new.Goals as goal

pub returns-in-Some-clause-splits : goal.returns-in-Some-clause-splits
returns-in-Some-clause-splits c = fault_prevents _ _ c.in-Some.ensures.0
