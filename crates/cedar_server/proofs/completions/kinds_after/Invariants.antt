use Rattle.std.proofs.Common.{◌≡◌, length, drop}
use Rattle.cedar_server.specs.Completions.{expected_at}
use Rattle.cedar_server.proofs.completions.kinds_after.Given as goal

-- what is expected at the place by the faults that are left is expected there
abbrev pub invariant-loop-fault : goal.invariant-loop-fault
invariant-loop-fault l = expected_at (length l.before) l.fault-items ≡ expected_at (length l.before) (drop l.fault-index l.fault-items)
