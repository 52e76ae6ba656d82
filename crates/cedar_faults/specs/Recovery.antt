-- Where reading continues after a fault.
use Rattle.std.specs.Prelude.{◌≡◌, ◌⊎◌, ◌+◌, ℕ, Bool, true, false, ◌&&◌, ◌==◌, List, [], ◌∷◌, ◌++◌, length, take, drop, codes}
use Rattle.std.specs.List.{list_any, sum_by}
use Rattle.cedar_tokens.specs.Units.{IsFirstUnit}
use Rattle.cedar_tokens.specs.Bytes.{line_feed, quote}
use Rattle.cedar_reading.specs.Pieces.{is_semicolon}
use Rattle.cedar_faults.specs.Marks.{EndsCharacter}

-- a string over several lines: a unit that begins with a quote, and has a line feed
abbrev pub spans_lines : List ℕ → Bool
spans_lines [] = false
spans_lines (b ∷ bs) = b == quote && list_any (λ b. b == line_feed) bs

-- What is passed over after a fault: a unit; but of a string over several lines, whose quote may be the slip, and where no unit
-- begins, one character.
abbrev pub IsPassed : List ℕ → List ℕ → Type 0
IsPassed rest u = (IsFirstUnit rest u × (spans_lines u ≡ false)) ⊎ (((v : List ℕ) → IsFirstUnit rest v → spans_lines v ≡ true) × EndsCharacter rest 0 (length u) × (u ≡ take (length u) rest))

-- these are passed over one after the other, and then `rest` is left
abbrev pub Passes : List (List ℕ) → List ℕ → List ℕ → Type 0
Passes [] text rest = rest ≡ text
Passes (u ∷ us) text rest = IsPassed text u × Passes us (drop (length u) text) rest

-- after a fault at the byte `at` reading continues at the byte `to`: after the first `;` that is passed over, or at the end
pub record Resumes (text : List ℕ) (at to : ℕ) : Type 0 where
  pub passed : List (List ℕ)
  pub passes : Passes passed (drop at text) (drop to text)
  pub place : to ≡ at + sum_by length passed
  pub stops : ((front : List (List ℕ)) × (passed ≡ front ++ codes ";" ∷ []) × (list_any is_semicolon front ≡ false)) ⊎ ((to ≡ length text) × (list_any is_semicolon passed ≡ false))
