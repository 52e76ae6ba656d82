-- What is found of the brackets of a text that splits.
use Rattle.std.specs.Prelude.{◌≡◌, ℕ, List, Option}
use Rattle.std.specs.Borrow.{Bor}
use Rattle.cedar_tokens.specs.Split.{SplitsInto}
use Rattle.cedar_faults.specs.Brackets.{brackets, left_open}
use Rattle.cedar_faults.specs.declared.brackets.Bracket.{Bracket}

-- the brackets of the text
abbrev pub AreBrackets : List ℕ → List Bracket → Type 0
AreBrackets text bs = (units : List (List ℕ)) × SplitsInto text units × (bs ≡ brackets 0 units)

-- the innermost open bracket of the text, if what is found after it leaves it open
abbrev pub IsUnclosed : List ℕ → Option (Bor (List ℕ)) → Option Bracket → Type 0
IsUnclosed text found b = (units : List (List ℕ)) × SplitsInto text units × (b ≡ left_open found units)
