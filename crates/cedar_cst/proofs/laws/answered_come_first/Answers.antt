use Rattle.cedar_cst.proofs.PartLaws.{answered_first}
use Rattle.cedar_cst.proofs.laws.answered_come_first.Goals as goal

pub returns : goal.returns
returns c = answered_first
