use Rattle.cedar_written.proofs.Canonical.{last_width_decides}
use Rattle.cedar_written.proofs.laws.last_width_decides.Goals as goal

pub returns : goal.returns
returns c = last_width_decides
