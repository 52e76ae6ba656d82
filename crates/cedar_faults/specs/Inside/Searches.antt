-- How far a search for faults has come.
use Rattle.std.specs.Prelude.{◌≤◌, ◌<◌, ◌+◌, ◌^◌, ℕ, List, [], length, drop, IfSome, MatchOption, ⊤}
use Rattle.std.specs.Str.{IsCharBoundary}
use Rattle.cedar_grammar.specs.Refusals.{place_of}
use Rattle.cedar_faults.specs.declared.brackets.Bracket.{Bracket}
use Rattle.cedar_faults.specs.declared.fault.Fault.{Fault}
use Rattle.cedar_faults.specs.declared.reader.Found.{Found}
use Rattle.cedar_faults.specs.Faults.{SearchFinds}
use Rattle.cedar_faults.specs.FirstFaults.{IsFirstOf}

-- a place between characters of the text, whose places are numbers of 64 bits
pub record IsInside (text : List ℕ) (at : ℕ) : Type 0 where
  pub inside : at ≤ length text
  pub boundary : IsCharBoundary text at
  pub size : length text < 2 ^ 64

-- so many bytes later the ends of a bracket are still numbers of 64 bits
pub record HasRoomAt (by : ℕ) (b : Bracket) : Type 0 where
  pub start : by + b.part.start < 2 ^ 64
  pub end : by + b.part.end < 2 ^ 64

-- so many bytes later all places are still numbers of 64 bits
pub record HasRoom (by : ℕ) (f : Fault) : Type 0 where
  pub error : MatchOption (place_of f.error) ⊤ (λ at. by + at < 2 ^ 64)
  pub start : by + f.part.start < 2 ^ 64
  pub end : by + f.part.end < 2 ^ 64
  pub at : by + f.expected.at < 2 ^ 64
  pub unclosed : IfSome f.unclosed (HasRoomAt by)

-- the policies from the byte `at` to where the faulty one begins are accepted
pub record Finds (text : List ℕ) (at : ℕ) (found : Found) : Type 0 where
  pub inside : IsInside text found.from
  pub order : at ≤ found.from
  pub first : IsFirstOf (drop found.from text) found.error
  pub passed : SearchFinds text at [] found.from
