use Rattle.cedar_faults.proofs.Furthest.{furthest}
use Rattle.cedar_faults.proofs.laws.first_is_furthest.Goals as goal

pub returns : goal.returns
returns c = furthest
