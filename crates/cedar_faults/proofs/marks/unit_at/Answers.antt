use Rattle.cedar_tokens.specs.Units.{BeginsNoUnit}
use Rattle.cedar_faults.proofs.marks.unit_at.Goals as goal

pub returns-in-None : goal.returns-in-None
returns-in-None c =
    let none : BeginsNoUnit _ = rw c.range_from.ensures.value at c.in-None.ensures.unit in
    absurd (none c.requires.unit c.requires.first.kind c.requires.first.begins)
