use Rattle.std.proofs.Common.{◌≡◌, ◌-◌, ◌^◌, ◌≤◌, take, vec_len, vec_items}
use Rattle.std.specs.Io.KnownBytes.{Consumes}
use Rattle.cedar_streams.proofs.reading.read_all.Given as goal

abbrev pub invariant-loop-bytes : goal.invariant-loop-bytes
invariant-loop-bytes g l =
    (l.input.has_failed ≡ l.fn.input.has_failed) × (l.filled ≤ vec_len l.bytes)
    × Consumes (g.R.Read.remaining l.fn.input.device) (g.R.Read.remaining l.input.device)
    (take l.filled (vec_items l.bytes))

abbrev pub decreases-loop-bytes : goal.decreases-loop-bytes
decreases-loop-bytes g l = 2 ^ 64 - l.filled
