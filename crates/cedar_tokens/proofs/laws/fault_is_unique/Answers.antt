use Rattle.cedar_tokens.proofs.Scanning.{fault_unique}
use Rattle.cedar_tokens.proofs.laws.fault_is_unique.Goals as goal

pub returns : goal.returns
returns c = fault_unique
