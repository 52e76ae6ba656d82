use Rattle.std.proofs.Common.{ℕ, ◌<◌, ◌≤◌}
use Rattle.cedar_faults.specs.Marks.{IsInLineBreak}
use Rattle.cedar_faults.proofs.marks.line_end.Given as goal

-- no line ends so far
abbrev pub invariant-loop-end : goal.invariant-loop-end
invariant-loop-end l = (i : ℕ) → l.at ≤ i → i < l.end → ¬ (IsInLineBreak l.text i)
