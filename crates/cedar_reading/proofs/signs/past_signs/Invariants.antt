use Rattle.std.proofs.Common.{◌-◌, ◌≤◌, length}
use Rattle.cedar_reading.specs.ReadingSigns.{Leads}
use Rattle.cedar_reading.proofs.signs.past_signs.Given as goal

abbrev pub invariant-signs : goal.invariant-signs
invariant-signs l = (l.count ≤ 4) × (length l.rest ≤ length l.fn.tokens)
    × Leads l.fn.sign l.count l.fn.tokens l.rest

abbrev pub decreases-signs : goal.decreases-signs
decreases-signs l = 4 - l.count
