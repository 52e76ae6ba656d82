use Rattle.cedar_tokens.proofs.Scanning.{fault_prevents}
use Rattle.cedar_tokens.proofs.laws.fault_prevents_split.Goals as goal

pub returns : goal.returns
returns c = fault_prevents
