use Rattle.std.proofs.Common.{◌≡◌}
use Rattle.cedar_files.specs.Hunks.{Passes}
use Rattle.cedar_files.proofs.hunks.Passed.up_to.Given as goal

abbrev pub invariant-loop-i : goal.invariant-loop-i
invariant-loop-i l = Passes l.changes l.fn.self → Passes l.changes l.passed × (l.passed.changes ≡ l.i)
