use Rattle.std.proofs.Common.{take}
use Rattle.cedar_files.specs.Places.{IsPlaceAfter}
use Rattle.cedar_files.proofs.places.place_after.Given as goal

abbrev pub invariant-loop-byte : goal.invariant-loop-byte
invariant-loop-byte l = IsPlaceAfter (take l.byte-index l.before) l.place
