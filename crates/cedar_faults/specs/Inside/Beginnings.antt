-- What a text begins with.
use Rattle.std.specs.Prelude.{◌≡◌, ◌≢◌, ◌<◌, ℕ, false, List, length, drop}
use Rattle.std.specs.List.{list_any, sum_by}
use Rattle.std.specs.Str.{IsCharBoundary}
use Rattle.cedar_tokens.specs.Split.{Scans, IsFirstFault, fault_kind}
use Rattle.cedar_tokens.specs.declared.lexer.LexFaultKind.TheVariants as Lexical
use Rattle.cedar_grammar.specs.Numbers.{is_too_large}
use Rattle.cedar_grammar.specs.Texts.{Accepted}
use Rattle.cedar_grammar.specs.declared.error.FormatError.{FormatError}
use Rattle.cedar_grammar.specs.declared.error.FormatError.TheVariants.{UnknownCharacter, UnfinishedString, NumberTooLarge, Grammar}
use Rattle.cedar_grammar.specs.Refusals.{Refuses}
use Rattle.cedar_faults.specs.declared.beginnings.Beginning.{Beginning}
use Rattle.cedar_faults.specs.declared.beginnings.Beginning.TheVariants.{Policy, End, Faulty}
use Rattle.cedar_faults.specs.declared.beginnings.TokenFault.{TokenFault}
use Rattle.cedar_faults.specs.FirstFaults.{IsFirstOf, IsTooLargeAt}
use Rattle.cedar_faults.specs.Faults.{BeginsWithPolicy}

-- the text begins with this
abbrev pub Is : List ℕ → Beginning → Type 0
Is text (Policy n) = BeginsWithPolicy text n
Is text End = Accepted text
Is text (Faulty e) = IsFirstOf text e

-- the text is refused before its end
abbrev pub RefusesInside : List ℕ → FormatError → Type 0
RefusesInside text e = Refuses text e × (e ≢ Grammar (length text))

-- why the units of a text end at this byte
abbrev pub Stops : List ℕ → ℕ → FormatError → Type 0
Stops text at (UnknownCharacter n) = (at ≡ n) × IsFirstFault text at × (fault_kind text at ≡ Lexical.UnknownCharacter)
Stops text at (UnfinishedString n) = (at ≡ n) × IsFirstFault text at × (fault_kind text at ≡ Lexical.UnfinishedString)
Stops text at (NumberTooLarge n) = (at ≡ n) × IsTooLargeAt text at
Stops text at e = ⊥

-- whole units whose numbers fit come before this byte, and no unit begins there, or a number that is too large
pub record IsTokenFault (text : List ℕ) (f : TokenFault) : Type 0 where
  pub inside : f.at < length text
  pub boundary : IsCharBoundary text f.at
  pub before : List (List ℕ)
  pub scans : Scans before text (drop f.at text)
  pub place : f.at ≡ sum_by length before
  pub fitting : list_any is_too_large before ≡ false
  pub stops : Stops text f.at f.error
