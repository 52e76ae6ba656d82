use Rattle.cedar_reading.proofs.Operands.{end_none, end_some}
use Rattle.cedar_reading.proofs.accesses.accesses_end.Goals as goal

pub returns-in-Some : goal.returns-in-Some
returns-in-Some c = end_some _ _ _ c.in-Some.ensures.item.3.0 c.in-Some.ensures.value

pub returns-in-None : goal.returns-in-None
returns-in-None c = end_none _ _ c.in-None.ensures.item.3
