-- When a text is refused, and why.
use Rattle.std.specs.Prelude.{◌≡◌, ℕ, true, false, List, ⊤, Option, Some, None}
use Rattle.cedar_tokens.specs.Split.{IsFirstFault, fault_kind}
use Rattle.cedar_tokens.specs.declared.lexer.LexFaultKind.TheVariants as Fault
use Rattle.cedar_grammar.specs.declared.error.FormatError.{FormatError}
use Rattle.cedar_grammar.specs.declared.error.FormatError.TheVariants.{UnknownCharacter, UnfinishedString, NumberTooLarge, Grammar, TooDeep, OutOfMemory}
use Rattle.cedar_grammar.specs.Numbers.{IsFirstTooLarge}
use Rattle.cedar_grammar.specs.Texts.{LeavesGrammar}

-- why the text's tokens are refused before the grammar is checked: its first fault, or else its first number above the limit
abbrev pub RefusesTokens : List ℕ → FormatError → Type 0
RefusesTokens text (UnknownCharacter at) = IsFirstFault text at × (fault_kind text at ≡ Fault.UnknownCharacter)
RefusesTokens text (UnfinishedString at) = IsFirstFault text at × (fault_kind text at ≡ Fault.UnfinishedString)
RefusesTokens text (NumberTooLarge at) = IsFirstTooLarge text at
RefusesTokens text e = ⊥

-- why a text is refused: its tokens are; or they aren't, and it isn't in the grammar, with the exact place and kind
abbrev pub Refuses : List ℕ → FormatError → Type 0
Refuses text (Grammar at) = LeavesGrammar text at false
Refuses text (TooDeep at) = LeavesGrammar text at true
Refuses text e = RefusesTokens text e

-- an error is `OutOfMemory`, or this holds of it
abbrev pub OutOfMemoryOr : (FormatError → Type 0) → FormatError → Type 0
OutOfMemoryOr Holds OutOfMemory = ⊤
OutOfMemoryOr Holds e = Holds e

-- the place of an error, if it has one
abbrev pub place_of : FormatError → Option ℕ
place_of (UnknownCharacter at) = Some at
place_of (UnfinishedString at) = Some at
place_of (NumberTooLarge at) = Some at
place_of (Grammar at) = Some at
place_of (TooDeep at) = Some at
place_of e = None
