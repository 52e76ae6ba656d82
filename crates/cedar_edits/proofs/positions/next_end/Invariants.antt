use Rattle.std.proofs.Common.{◌≡◌, ◌≤◌, ◌-◌}
use Rattle.cedar_edits.specs.Positions.{lines_before}
use Rattle.cedar_edits.proofs.positions.next_end.Given as goal

abbrev pub invariant-candidates : goal.invariant-candidates
invariant-candidates l = (l.from ≤ l.at) × (l.at ≤ l.to)
    × (lines_before l.bytes l.at ≡ lines_before l.bytes l.from)

abbrev pub decreases-candidates : goal.decreases-candidates
decreases-candidates l = l.to - l.at
