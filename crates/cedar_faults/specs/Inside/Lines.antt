-- What is passed over in one line after a fault.
use Rattle.std.specs.Prelude.{◌≡◌, ◌⊎◌, ◌+◌, ◌≤◌, ◌==◌, ℕ, false, List, [], ◌∷◌, ◌++◌, length, take, drop, codes, ⊤}
use Rattle.std.specs.List.{list_any, sum_by}
use Rattle.cedar_tokens.specs.Units.{IsFirstUnit, BeginsNoUnit}
use Rattle.cedar_tokens.specs.Bytes.{line_feed, quote}
use Rattle.cedar_reading.specs.Pieces.{is_semicolon}
use Rattle.cedar_faults.specs.Marks.{EndsCharacter}

-- no line feed is among the bytes
abbrev pub IsLine : List ℕ → Type 0
IsLine line = list_any (λ b. b == line_feed) line ≡ false

-- what follows a line: nothing, or a line feed and more
abbrev pub FollowsLine : List ℕ → Type 0
FollowsLine [] = ⊤
FollowsLine (b ∷ bs) = b ≡ line_feed

-- the first line of a text, without what ends it
pub record IsFirstLine (text line : List ℕ) : Type 0 where
  pub is_line : IsLine line
  pub tail : List ℕ
  pub parts : text ≡ line ++ tail
  pub follows : FollowsLine tail

-- what is passed over first in a line: a unit, or where none begins a character
abbrev pub IsFirstInLine : List ℕ → List ℕ → Type 0
IsFirstInLine line u = IsFirstUnit line u ⊎ (BeginsNoUnit line × EndsCharacter line 0 (length u) × (u ≡ take (length u) line))

-- these are passed over in a line, one after the other, and then `rest` is left
abbrev pub PassesInLine : List (List ℕ) → List ℕ → List ℕ → Type 0
PassesInLine [] line rest = rest ≡ line
PassesInLine (u ∷ us) line rest = IsFirstInLine line u × PassesInLine us (drop (length u) line) rest

-- no string that begins in the line ends in it
abbrev pub HasNoString : List ℕ → Type 0
HasNoString line = (front back : List ℕ) → line ≡ front ++ (quote ∷ back) → BeginsNoUnit (quote ∷ back)

-- the first `;` that is passed over in a line ends before the byte n
pub record EndsSemicolon (line : List ℕ) (n : ℕ) : Type 0 where
  pub before : List (List ℕ)
  pub passes : PassesInLine before line (codes ";" ++ drop n line)
  pub semicolon : IsFirstInLine (codes ";" ++ drop n line) (codes ";")
  pub place : n ≡ sum_by length before + 1
  pub inside : n ≤ length line
  pub none : list_any is_semicolon before ≡ false

-- no `;` is passed over in a line
pub record HasNoSemicolon (line : List ℕ) : Type 0 where
  pub passed : List (List ℕ)
  pub passes : PassesInLine passed line []
  pub none : list_any is_semicolon passed ≡ false
