-- How many lines two texts have in common.
use Rattle.std.specs.Prelude.{◌≡◌, ◌-◌, ◌<◌, ◌≤◌, ◌⊎◌, ℕ, List, length, take, drop, slice_index}
use Rattle.cedar_tokens.specs.Bytes.{line_feed}
use Rattle.cedar_edits.specs.Lines.{BeginApart, EndApart}

-- a line begins at this byte: the first one, or one after a line feed
abbrev pub StartsLine : List ℕ → ℕ → Type 0
StartsLine bytes at = (at ≡ 0) ⊎ ((0 < at) × (slice_index bytes (at - 1) ≡ line_feed))

-- so many bytes are the lines that both texts begin with
pub record StartLines (x y : List ℕ) (n : ℕ) : Type 0 where
  pub in_first : n ≤ length x
  pub in_second : n ≤ length y
  pub same : take n x ≡ take n y
  pub first_line : StartsLine x n
  pub second_line : StartsLine y n
  pub all : BeginApart (drop n x) (drop n y)

-- so many bytes are the lines that both texts end with
pub record EndLines (x y : List ℕ) (n : ℕ) : Type 0 where
  pub in_first : n ≤ length x
  pub in_second : n ≤ length y
  pub same : drop (length x - n) x ≡ drop (length y - n) y
  pub first_line : (n ≡ 0) ⊎ StartsLine x (length x - n)
  pub second_line : (n ≡ 0) ⊎ StartsLine y (length y - n)
  pub all : EndApart (take (length x - n) x) (take (length y - n) y)
