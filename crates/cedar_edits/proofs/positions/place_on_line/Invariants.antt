use Rattle.std.proofs.Common.{◌≡◌, ◌≤◌, ◌*◌, ◌-◌}
use Rattle.std.specs.Prelude.{slice_range}
use Rattle.cedar_edits.specs.Positions.{units}
use Rattle.cedar_edits.proofs.Walks.{Walked}
use Rattle.cedar_edits.proofs.positions.place_on_line.Given as goal

abbrev pub invariant-loop-i : goal.invariant-loop-i
invariant-loop-i l = Walked l.encoding l.bytes l.start l.character l.i l.last
    × (l.used ≡ units l.encoding (slice_range l.bytes l.start l.i)) × (l.used ≤ 2 * (l.i - l.start))
