-- A text without the blank lines between its strings and comments.
use Rattle.std.specs.Prelude.{◌≡◌, ◌≤◌, ◌<◌, ℕ, List, [], ◌∷◌, ◌++◌, Bool, true, ◌&&◌, ◌||◌, not, if◌then◌else◌, ◌==◌, ⊤, length, drop, slice_range, Option, MatchOption}
use Rattle.std.specs.Str.{chars, trim}
use Rattle.std.specs.List.{filter, list_all, concat}
use Rattle.std.specs.Char.{is_whitespace}
use Rattle.cedar_tokens.specs.Units.{is_string, is_comment, IsLongest, BeginsNone}
use Rattle.cedar_tokens.specs.Listing.{with_first}
use Rattle.cedar_tokens.specs.declared.token.Span.{Span}
use Rattle.cedar_tokens.specs.Bytes.{line_feed, space_character}

-- the last byte; c if there is none
abbrev pub last_byte_or : ℕ → List ℕ → ℕ
last_byte_or c [] = c
last_byte_or c (d ∷ ds) = last_byte_or d ds

-- the lines of a piece, each up to and including its `\n`; what follows the last `\n` is the last line
abbrev pub piece_lines : List ℕ → List (List ℕ)
piece_lines [] = [] ∷ []
piece_lines (b ∷ bs) = if b == line_feed then (line_feed ∷ []) ∷ piece_lines bs else with_first b (piece_lines bs)

-- it ends in a line feed and is otherwise only blanks (a line without bytes ends in none; a space stands for that)
abbrev pub is_blank_line : List ℕ → Bool
is_blank_line l = last_byte_or space_character l == line_feed && list_all is_whitespace (chars l)

abbrev pub without_blank_lines : List (List ℕ) → List ℕ
without_blank_lines ls = concat (filter (λ l. not (is_blank_line l)) ls)

-- the piece without its blank lines; its first line stays
abbrev pub clean_lines : List (List ℕ) → List ℕ
clean_lines [] = []
clean_lines (l ∷ ls) = l ++ without_blank_lines ls

abbrev pub clean_piece : List ℕ → List ℕ
clean_piece p = clean_lines (piece_lines p)

abbrev pub IsString : List ℕ → Type 0
IsString u = is_string u ≡ true

-- a string or a comment stays as it is
abbrev pub IsKept : List ℕ → Type 0
IsKept u = (is_string u || is_comment u) ≡ true

-- no string or comment begins within m, where r follows m
abbrev pub NoneBegins : List ℕ → List ℕ → Type 0
NoneBegins [] r = ⊤
NoneBegins (b ∷ m) r = BeginsNone IsKept (b ∷ (m ++ r)) × NoneBegins m r

-- y is x without the blank lines of its pieces: x is cut at its strings and comments, which stay
pub data Cut : List ℕ → List ℕ → Type 0 where
  last_piece : (m : List ℕ) → NoneBegins m [] → Cut m (clean_piece m)
  more_pieces : (m s r y : List ℕ) → NoneBegins m (s ++ r) → IsLongest IsKept (s ++ r) s → Cut r y → Cut (m ++ (s ++ r)) (clean_piece m ++ (s ++ y))

-- y is the cleaned text of x
pub record IsCleaned (x y : List ℕ) : Type 0 where
  pub joined : List ℕ
  pub cut : Cut x joined
  pub trimmed : y ≡ trim joined

-- ---- places in a text

-- s is the place of the leftmost text of the kind K at or after from, and it is the longest there
pub record StandsFirst (K : List ℕ → Type 0) (text : List ℕ) (from : ℕ) (s : Span) : Type 0 where
  pub not_before : from ≤ s.start
  pub first : (k : ℕ) → from ≤ k → k < s.start → BeginsNone K (drop k text)
  pub nonempty : s.start < s.end
  pub inside : s.end ≤ length text
  pub longest : IsLongest K (drop s.start text) (slice_range text s.start s.end)

-- the place of the leftmost text of the kind K at or after a place; `None` if there is none
abbrev pub FindsFirst : (List ℕ → Type 0) → List ℕ → ℕ → Option Span → Type 0
FindsFirst K text from result = MatchOption result ((k : ℕ) → from ≤ k → BeginsNone K (drop k text)) (StandsFirst K text from)
