use Rattle.cedar_edits.proofs.Found.{IsOffsetOf-unique}
use Rattle.cedar_edits.proofs.laws.offsets_are_determined.Goals as goal

pub returns : goal.returns
returns c = IsOffsetOf-unique
