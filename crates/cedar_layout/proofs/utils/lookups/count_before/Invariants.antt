use Rattle.std.proofs.Common.{◌-◌, ◌+◌, ◌<◌, ◌≤◌, ◌^◌, ℕ, length, get_or}
use Rattle.cedar_tokens.specs.declared.token.WrappedToken.{WrappedToken}
use Rattle.cedar_layout.specs.Inside.Halving.{edge_of}
use Rattle.cedar_layout.proofs.utils.lookups.count_before.Given as goal

-- the place looked for is between low and high
abbrev pub invariant-loop-low : goal.invariant-loop-low
invariant-loop-low g l = record {
  ordered : l.low ≤ l.high;
  fits : l.high ≤ length l.tokens;
  below : (k : ℕ) (d : WrappedToken) → k < l.low → edge_of l.edge (get_or l.tokens k d).span < l.at;
  above : (k : ℕ) (d : WrappedToken) → l.high ≤ k → k < length l.tokens
      → l.at ≤ edge_of l.edge (get_or l.tokens k d).span;
  grows : l.fn.steps ≤ l.steps;
  least : l.high - l.low < length l.tokens → l.fn.steps < l.steps;
  most : (d : ℕ) → length l.tokens < 2 ^ d
      → (e : ℕ) × (l.high - l.low < 2 ^ e) × (l.steps + e ≤ l.fn.steps + d);
}

abbrev pub decreases-loop-low : goal.decreases-loop-low
decreases-loop-low g l = l.high - l.low
