-- Texts that have given tokens.
use Rattle.std.specs.Prelude.{◌≡◌, ℕ, List, map}
use Rattle.std.specs.List.{filter}
use Rattle.cedar_tokens.specs.Units.{is_token}
use Rattle.cedar_tokens.specs.Split.{SplitsInto}
use Rattle.cedar_tokens.specs.Listing.{Decorated, token_value}

-- a token by value: a number without leading zeros
abbrev pub value_of : Decorated → List ℕ
value_of d = token_value d.text

-- the text splits, and its tokens are these by value
pub record HasTheTokens (text : List ℕ) (ts : List Decorated) : Type 0 where
  pub units : List (List ℕ)
  pub split : SplitsInto text units
  pub same : map token_value (filter is_token units) ≡ map value_of ts
