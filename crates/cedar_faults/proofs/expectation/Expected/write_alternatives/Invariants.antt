use Rattle.std.proofs.Common.{map, take}
use Rattle.std.specs.Fmt.{HasWritten, IsPlainFormatter}
use Rattle.cedar_faults.specs.Messages.{called}
use Rattle.cedar_faults.proofs.Listings.{spread}
use Rattle.cedar_faults.proofs.expectation.Expected.write_alternatives.Given as goal

-- the names so far are written
abbrev pub invariant-loop-index : goal.invariant-loop-index
invariant-loop-index g l = IsPlainFormatter l.fn.f → HasWritten g.W.Write.write_str_gives l.fn.f
    (spread l.last 0 (map called (take l.index l.name-items))) l.f
