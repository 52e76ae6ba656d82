use Rattle.std.proofs.Common.{arith}
use Rattle.std.proofs.lemmas.List.{length-take-le}
use Rattle.std.proofs.lemmas.List.Sums.{suffix_len-le-length}
use Rattle.cedar_files.proofs.places.place_after.Goals as goal

pub overflow_add-place-else-byte-eq10 : goal.overflow_add-place-else-byte-eq10
overflow_add-place-else-byte-eq10 c = grind (
  arith,
  c.loop-byte.invariant.column,
  suffix_len-le-length,
  length-take-le,
)
