-- Lines of a text, and positions on them.
use Rattle.std.specs.Prelude.{◌≡◌, ◌≢◌, ◌⊎◌, ℕ, zero, suc, ◌+◌, ◌<◌, ◌≤◌, Bool, ◌==◌, ◌&&◌, ◌||◌, not, nat_lt, if◌then◌else◌, List, length, sum_by, slice_index, slice_range}
use Rattle.std.specs.Str.{IsCharBoundary}
use Rattle.cedar_edits.specs.declared.positions.Encoding.{Encoding}
use Rattle.cedar_edits.specs.declared.positions.Encoding.TheVariants.{Utf16, Utf8, Utf32}
use Rattle.cedar_edits.specs.declared.positions.Line.{Line}
use Rattle.cedar_edits.specs.declared.positions.Position.{Position}

-- the byte at i is the last one of a line: a line feed, or a carriage return that no line feed follows
abbrev pub ends_line : List ℕ → ℕ → Bool
ends_line text i = (slice_index text i == 10) || ((slice_index text i == 13) && not (slice_index text (i + 1) == 10))

-- how many lines end in the first n bytes
abbrev pub lines_before : List ℕ → ℕ → ℕ
lines_before text zero = 0
lines_before text (suc n) = (if ends_line text n then 1 else 0) + lines_before text n

-- the line with this number, counted from 0, begins at s: the first place before which so many lines end
pub record BeginsLine (text : List ℕ) (line s : ℕ) : Type 0 where
  pub within : s ≤ length text
  pub lines : lines_before text s ≡ line
  pub first : (k : ℕ) → k < s → lines_before text k < line

-- the line of a place: the last one that begins at or before it
pub record IsLineAt (text : List ℕ) (at : ℕ) (line : Line) : Type 0 where
  pub begins : BeginsLine text line.number line.start
  pub before : line.start ≤ at
  pub number : lines_before text at ≡ line.number

-- the units that a byte adds: in UTF-8 always one; in UTF-16 two for the first byte of a character of four bytes, one for
-- that of any other, and none for the other bytes of a character; in UTF-32 one for the first byte of a character, and none
-- for the others
abbrev pub unit_count : Encoding → ℕ → ℕ
unit_count Utf8 b = 1
unit_count Utf32 b = if nat_lt b 128 || not (nat_lt b 192) then 1 else 0
unit_count Utf16 b = if nat_lt b 128 then 1 else (if nat_lt b 192 then 0 else (if nat_lt b 240 then 1 else 2))

-- the units of a part of a text
abbrev pub units : Encoding → List ℕ → ℕ
units e bytes = sum_by (unit_count e) bytes

-- the last place at or before a byte where a character begins or the text ends
pub record IsCharacterAt (text : List ℕ) (at kept : ℕ) : Type 0 where
  pub bound : kept ≤ at
  pub boundary : IsCharBoundary text kept
  pub nearest : (j : ℕ) → kept < j → j ≤ at → ¬ (IsCharBoundary text j)

-- the position of a place: so many lines end before it, and so many units come before it on its line
pub record IsPositionOf (e : Encoding) (text : List ℕ) (at : ℕ) (p : Position) : Type 0 where
  pub start : ℕ
  pub begins : BeginsLine text p.line start
  pub before : start ≤ at
  pub line : lines_before text at ≡ p.line
  pub character : p.character ≡ units e (slice_range text start at)

-- the position of a byte: that of the character it belongs to
abbrev pub IsPositionAt : Encoding → List ℕ → ℕ → Position → Type 0
IsPositionAt e text at p = (kept : ℕ) × IsCharacterAt text at kept × IsPositionOf e text kept p

-- a place on the line that begins at s: a character begins there, or the text ends, and nothing before it ends the line
pub record IsOnLine (text : List ℕ) (s at : ℕ) : Type 0 where
  pub from : s ≤ at
  pub boundary : IsCharBoundary text at
  pub no_feed : (k : ℕ) → s ≤ k → k < at → slice_index text k ≢ 10
  pub no_return : (k : ℕ) → s ≤ k → k < at → slice_index text k ≢ 13

-- the last place on that line with at most so many units before it
pub record IsPlaceOnLine (e : Encoding) (text : List ℕ) (s character at : ℕ) : Type 0 where
  pub on : IsOnLine text s at
  pub reached : units e (slice_range text s at) ≤ character
  pub last : (j : ℕ) → at < j → IsOnLine text s j → character < units e (slice_range text s j)

-- the byte of a position: its place on its line, or the text's end for a line past the last
abbrev pub IsOffsetOf : Encoding → List ℕ → Position → ℕ → Type 0
IsOffsetOf e text p at = ((lines_before text (length text) < p.line) × (at ≡ length text)) ⊎ ((s : ℕ) × BeginsLine text p.line s × IsPlaceOnLine e text s p.character at)
