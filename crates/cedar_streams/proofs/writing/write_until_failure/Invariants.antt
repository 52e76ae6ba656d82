use Rattle.std.proofs.Common.{◌≡◌, List, ℕ, ◌++◌, length}
use Rattle.std.specs.Io.KnownBytes.{Appends}
use Rattle.cedar_streams.proofs.writing.write_until_failure.Given as goal

abbrev pub invariant-loop-rest : goal.invariant-loop-rest
invariant-loop-rest g l = (l.output.has_failed ≡ l.fn.output.has_failed)
    × ((done : List ℕ) × (l.fn.bytes ≡ done ++ l.rest)
    × Appends (g.W.Write.contents l.fn.output.device) (g.W.Write.contents l.output.device) done)

abbrev pub decreases-loop-rest : goal.decreases-loop-rest
decreases-loop-rest g l = length l.rest
