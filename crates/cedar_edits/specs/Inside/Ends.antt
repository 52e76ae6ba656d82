-- Where lines end.
use Rattle.std.specs.Prelude.{◌≡◌, ◌≤◌, ◌<◌, ℕ, true, List}
use Rattle.cedar_edits.specs.Positions.{ends_line, lines_before}

-- the first of the bytes in this range that ends a line
pub record IsNextEnd (text : List ℕ) (from to at : ℕ) : Type 0 where
  pub after : from ≤ at
  pub before : at < to
  pub ends : ends_line text at ≡ true
  pub first : lines_before text at ≡ lines_before text from
