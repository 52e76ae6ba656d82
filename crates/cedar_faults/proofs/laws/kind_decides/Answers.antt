use Rattle.cedar_faults.proofs.Deciding.{kind_decides}
use Rattle.cedar_faults.proofs.laws.kind_decides.Goals as goal

pub returns : goal.returns
returns c = kind_decides
