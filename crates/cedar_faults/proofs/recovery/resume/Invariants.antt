use Rattle.std.proofs.Common.{◌-◌, length}
use Rattle.cedar_faults.proofs.Passing.{SoFar}
use Rattle.cedar_faults.proofs.recovery.resume.Given as goal

abbrev pub invariant-lines : goal.invariant-lines
invariant-lines l = SoFar l.text l.at l.end

abbrev pub decreases-lines : goal.decreases-lines
decreases-lines l = length l.text - l.end
