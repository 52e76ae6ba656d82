use Rattle.std.proofs.Common.{◌-◌, length}
use Rattle.cedar_faults.proofs.Lines.{SoFarInLine}
use Rattle.cedar_faults.proofs.recovery.semicolon_end.Given as goal

abbrev pub invariant-loop-at : goal.invariant-loop-at
invariant-loop-at l = SoFarInLine l.line l.at l.is_open

abbrev pub decreases-loop-at : goal.decreases-loop-at
decreases-loop-at l = length l.line - l.at
