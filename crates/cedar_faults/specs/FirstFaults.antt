-- The first fault of a text: the first byte at which no accepted text continues.
use Rattle.std.specs.Prelude.{◌≡◌, ℕ, Bool, true, false, List, [], ◌∷◌, length, drop}
use Rattle.std.specs.List.{list_any, sum_by}
use Rattle.cedar_tokens.specs.Units.{IsFirstUnit}
use Rattle.cedar_tokens.specs.Split.{Scans, IsFirstFault, fault_kind}
use Rattle.cedar_tokens.specs.declared.lexer.LexFaultKind.TheVariants as Lexical
use Rattle.cedar_grammar.specs.Beginnings.{Begins}
use Rattle.cedar_grammar.specs.Numbers.{is_too_large}
use Rattle.cedar_grammar.specs.Texts.{greatest_depth, only_tokens, LeaveAfter}
use Rattle.cedar_grammar.specs.declared.error.FormatError.{FormatError}
use Rattle.cedar_grammar.specs.declared.error.FormatError.TheVariants.{UnknownCharacter, UnfinishedString, NumberTooLarge, Grammar, TooDeep}

-- whole units come before this byte, and some accepted list begins with their tokens
pub record Reaches (text : List ℕ) (at : ℕ) : Type 0 where
  pub before : List (List ℕ)
  pub scans : Scans before text (drop at text)
  pub place : at ≡ sum_by length before
  pub fitting : list_any is_too_large before ≡ false
  pub begins : Begins greatest_depth (only_tokens before)

-- what comes next in a text: nothing, or a unit whose number, if it is one, fits
abbrev pub IsNext : List ℕ → List (List ℕ) → Type 0
IsNext rest [] = rest ≡ []
IsNext rest (u ∷ []) = IsFirstUnit rest u × (is_too_large u ≡ false)
IsNext rest (u ∷ v ∷ us) = ⊥

-- the tokens leave the grammar with what comes next
pub record LeavesAt (text : List ℕ) (at : ℕ) (deep : Bool) : Type 0 where
  pub reached : Reaches text at
  pub next : List (List ℕ)
  pub is_next : IsNext (drop at text) next
  pub leaves : LeaveAfter (only_tokens reached.before) next deep

-- the number that comes next is too large
abbrev pub IsTooLargeAt : List ℕ → ℕ → Type 0
IsTooLargeAt text at = (u : List ℕ) × IsFirstUnit (drop at text) u × (is_too_large u ≡ true)

-- The first fault of a text, with its place and its reason: some accepted text begins as it does up to there, and none goes on
-- with what comes next, since no unit begins there, its number is too large, or its token or end leaves the grammar.
abbrev pub IsFirstOf : List ℕ → FormatError → Type 0
IsFirstOf text (UnknownCharacter at) = Reaches text at × IsFirstFault text at × (fault_kind text at ≡ Lexical.UnknownCharacter)
IsFirstOf text (UnfinishedString at) = Reaches text at × IsFirstFault text at × (fault_kind text at ≡ Lexical.UnfinishedString)
IsFirstOf text (NumberTooLarge at) = Reaches text at × IsTooLargeAt text at
IsFirstOf text (Grammar at) = LeavesAt text at false
IsFirstOf text (TooDeep at) = LeavesAt text at true
IsFirstOf text e = ⊥
