-- The first unit of a text.
use Rattle.std.specs.Prelude.{◌≡◌, ℕ, List, Option}
use Rattle.std.specs.Borrow.{Bor}
use Rattle.std.specs.Option.{option_map}
use Rattle.cedar_tokens.specs.Split.{SplitsInto}
use Rattle.cedar_faults.specs.Expectations.{first_of}

-- the answer is the first of the units of a text that splits, if there is one
abbrev pub BeginsWithFirst : List ℕ → Option (Bor (List ℕ)) → Type 0
BeginsWithFirst text first = (units : List (List ℕ)) → SplitsInto text units → option_map (λ t. t.now) first ≡ first_of units
