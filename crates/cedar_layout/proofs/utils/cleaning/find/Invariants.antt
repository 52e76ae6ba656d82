use Rattle.std.proofs.Common.{◌-◌, ◌<◌, ◌≤◌, ℕ, length, drop}
use Rattle.cedar_tokens.specs.Units.{BeginsNone}
use Rattle.cedar_layout.specs.Inside.Seeking.{IsSought}
use Rattle.cedar_layout.proofs.utils.cleaning.find.Given as goal

abbrev pub invariant-loop-start : goal.invariant-loop-start
invariant-loop-start l = record {
  not_before : l.from ≤ l.start;
  none : (k : ℕ) → l.from ≤ k → k < l.start → BeginsNone (IsSought l.sought) (drop k l.text);
}

abbrev pub decreases-loop-start : goal.decreases-loop-start
decreases-loop-start l = length l.text - l.start
