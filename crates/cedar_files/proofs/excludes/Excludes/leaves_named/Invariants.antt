use Rattle.std.proofs.Common.{◌<◌, ℕ}
use Rattle.cedar_files.specs.Excludes.{AsksTheSame, LeavesAbove}
use Rattle.cedar_files.proofs.excludes.Excludes.leaves_named.Given as goal

abbrev pub invariant-loop-at : goal.invariant-loop-at
invariant-loop-at l = AsksTheSame l.initial.self l.self × ((n : ℕ) → n < l.at → ¬ (LeavesAbove l.initial.self l.path n))
