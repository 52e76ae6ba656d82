use Rattle.std.proofs.Common.{◌≤◌, ◌-◌}
use Rattle.cedar_edits.specs.Positions.{BeginsLine}
use Rattle.cedar_edits.proofs.positions.walk.Given as goal

abbrev pub invariant-lines : goal.invariant-lines
invariant-lines l = BeginsLine l.bytes l.line.number l.line.start × (l.line.start ≤ l.at)

abbrev pub decreases-lines : goal.decreases-lines
decreases-lines l = l.at - l.line.start
