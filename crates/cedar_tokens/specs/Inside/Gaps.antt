-- The text before the first token of a text, and the token that is next.
use Rattle.std.specs.Prelude.{◌≡◌, ◌≤◌, true, false, List, ℕ, length, take, drop}
use Rattle.std.specs.List.{AllByRecursion}
use Rattle.std.specs.Str.{IsCharBoundary}
use Rattle.cedar_tokens.specs.Units.{is_token, IsToken, IsUnit, BeginsWith, IsFirstUnit}
use Rattle.cedar_tokens.specs.Split.{Scans}

-- the first n bytes of the text are units that aren't tokens, and a unit that begins after them is a token
pub record IsGap (text : List ℕ) (n : ℕ) : Type 0 where
  pub inside : n ≤ length text
  pub units : List (List ℕ)
  pub scans : Scans units text (drop n text)
  pub apart : AllByRecursion (λ u. is_token u ≡ false) units
  pub token : (u : List ℕ) → IsFirstUnit (drop n text) u → is_token u ≡ true

-- no token is the unit at the start of the text
abbrev pub BeginsNoToken : List ℕ → Type 0
BeginsNoToken text = (u : List ℕ) → IsFirstUnit text u → is_token u ≡ false

-- the unit at the start of the text is a token of n bytes
abbrev pub BeginsToken : List ℕ → ℕ → Type 0
BeginsToken text n = IsToken (take n text) × IsCharBoundary text n × ((v : List ℕ) → IsUnit v → BeginsWith text v → length v ≤ n)
