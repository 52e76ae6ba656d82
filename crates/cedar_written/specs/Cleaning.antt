-- A text without its blank lines, trimmed, by its units. A blank line has only blanks between two line feeds.
use Rattle.std.specs.Prelude.{◌≡◌, ◌↔◌, ℕ, Bool, true, false, not, ◌&&◌, ◌||◌, ◌==◌, if◌then◌else◌, List, [], ◌∷◌, ◌++◌}
use Rattle.std.specs.List.{list_any, take_while}
use Rattle.std.specs.Str.{trim}
use Rattle.cedar_tokens.specs.Bytes.{line_feed}
use Rattle.cedar_tokens.specs.Split.{Splits, SplitsInto}
use Rattle.cedar_layout.specs.Cleaning.{IsCleaned as IsCleanedByPieces}
use Rattle.cedar_laws.specs.CleaningLaws.{is_solid}

-- the unit is neither a token nor a comment
abbrev pub is_blank : List ℕ → Bool
is_blank u = not (is_solid u)

-- the unit is a line feed
abbrev pub is_feed : List ℕ → Bool
is_feed (b ∷ []) = b == line_feed
is_feed _ = false

-- The units without blank lines. `fed` says whether a line feed is before them, and since then only blanks: then they
-- begin with what is left of a blank line if a line feed is among the blanks that they begin with.
abbrev pub without_blank_lines : Bool → List (List ℕ) → List ℕ
without_blank_lines fed [] = []
without_blank_lines fed (u ∷ us) = if fed && list_any is_feed (take_while is_blank (u ∷ us))
    then without_blank_lines true us
    else u ++ without_blank_lines (is_feed u || (fed && is_blank u)) us

-- x splits, and y is its cleaned text
pub record IsCleaned (x y : List ℕ) : Type 0 where
  pub units : List (List ℕ)
  pub split : SplitsInto x units
  pub trimmed : y ≡ trim (without_blank_lines false units)

-- the same as the text that is cleaned piece by piece between its strings and comments
abbrev pub CleaningsAgree : Type 0
CleaningsAgree = (x y : List ℕ) → Splits x → IsCleanedByPieces x y ↔ IsCleaned x y
