use Rattle.std.proofs.Common.{◌≡◌, ◌-◌, ◌++◌, ℕ, List, length, drop, string_bytes}
use Rattle.std.specs.Str.{IsCharBoundary}
use Rattle.cedar_layout.specs.Cleaning.{Cut}
use Rattle.cedar_layout.proofs.utils.cleaning.push_pieces.Given as goal

-- the text without blank lines is what was joined so far followed by the rest without blank lines
abbrev pub invariant-loop-kept : goal.invariant-loop-kept
invariant-loop-kept l = record {
  boundary : IsCharBoundary l.text l.at;
  joined : List ℕ;
  bytes : string_bytes l.out ≡ string_bytes l.fn.out ++ joined;
  cut : (y : List ℕ) → Cut (drop l.at l.text) y → Cut l.text (joined ++ y);
}

abbrev pub decreases-loop-kept : goal.decreases-loop-kept
decreases-loop-kept l = length l.text - l.at
