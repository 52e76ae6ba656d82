-- Numbers of a text, and the greatest value that is accepted.
use Rattle.std.specs.Prelude.{◌≡◌, ℕ, Bool, true, false, ◌&&◌, List, ◌∷◌, ◌++◌, length, nat_lt}
use Rattle.std.specs.List.{list_any, sum_by}
use Rattle.std.specs.Str.Parse.{digits_value}
use Rattle.cedar_tokens.specs.Units.{is_number}
use Rattle.cedar_tokens.specs.Split.{SplitsInto}

-- u is a number above 18446744073709551615
abbrev pub is_too_large : List ℕ → Bool
is_too_large u = is_number u && nat_lt 18446744073709551615 (digits_value 10 u)

-- at is where the first number above the limit begins: after the units before it
pub record IsFirstTooLarge (text : List ℕ) (at : ℕ) : Type 0 where
  pub before : List (List ℕ)
  pub number : List ℕ
  pub after : List (List ℕ)
  pub split : SplitsInto text (before ++ (number ∷ after))
  pub place : at ≡ sum_by length before
  pub large : is_too_large number ≡ true
  pub first : list_any is_too_large before ≡ false
