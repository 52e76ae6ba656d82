-- Where units begin and tokens end.
use Rattle.std.specs.Prelude.{◌≡◌, ◌≤◌, ℕ, List, [], Option, MatchOption, length, drop}
use Rattle.std.specs.Str.{IsCharBoundary}
use Rattle.cedar_tokens.specs.Units.{IsFirstUnit}
use Rattle.cedar_tokens.specs.Split.{SplitsInto}
use Rattle.cedar_grammar.specs.Texts.{only_tokens}
use Rattle.cedar_faults.specs.Marks.{EndsLastToken}

-- a unit begins at the byte `at`
pub record HasUnitAt (text : List ℕ) (at : ℕ) : Type 0 where
  pub inside : at ≤ length text
  pub boundary : IsCharBoundary text at
  pub unit : List ℕ
  pub first : IsFirstUnit (drop at text) unit

-- the last token among the units ends there, or they have none
abbrev pub EndsLast : List (List ℕ) → Option ℕ → Type 0
EndsLast units last = MatchOption last (only_tokens units ≡ []) (EndsLastToken units)

-- the last token of the text ends there, or it has none
abbrev pub EndsLastOf : List ℕ → Option ℕ → Type 0
EndsLastOf text last = (units : List (List ℕ)) × SplitsInto text units × EndsLast units last
