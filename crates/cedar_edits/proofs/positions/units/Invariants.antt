use Rattle.std.proofs.Common.{◌≡◌, ◌≤◌, ◌*◌, sum_by, take}
use Rattle.cedar_edits.specs.Positions.{unit_count}
use Rattle.cedar_edits.proofs.positions.units.Given as goal

abbrev pub invariant-loop-byte : goal.invariant-loop-byte
invariant-loop-byte l = (l.count ≡ sum_by (unit_count l.encoding) (take l.byte-index l.bytes))
    × (l.count ≤ 2 * l.byte-index)
