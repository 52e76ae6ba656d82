use Rattle.cedar_laws.proofs.OutputLaws.{last_width_decides}
use Rattle.cedar_laws.proofs.laws.last_width_decides.Goals as goal

pub returns : goal.returns
returns c = last_width_decides
