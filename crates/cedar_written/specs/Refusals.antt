-- When a text is refused, and why.
use Rattle.std.specs.Prelude.{◌≡◌, ℕ, true, false, List}
use Rattle.cedar_tokens.specs.Split.{IsFirstFault, fault_kind}
use Rattle.cedar_tokens.specs.declared.lexer.LexFaultKind.TheVariants as Fault
use Rattle.cedar_grammar.specs.Numbers.{IsFirstTooLarge}
use Rattle.cedar_grammar.specs.declared.error.FormatError.{FormatError}
use Rattle.cedar_grammar.specs.declared.error.FormatError.TheVariants.{UnknownCharacter, UnfinishedString, NumberTooLarge, Grammar, TooDeep}
use Rattle.cedar_written.specs.Texts.{LeavesGrammar}

-- Why a text is refused: at its first place where no unit begins; or else at its first number above the limit; or else
-- where its tokens leave the grammar, with the exact kind.
abbrev pub Refuses : List ℕ → FormatError → Type 0
Refuses text (UnknownCharacter at) = IsFirstFault text at × (fault_kind text at ≡ Fault.UnknownCharacter)
Refuses text (UnfinishedString at) = IsFirstFault text at × (fault_kind text at ≡ Fault.UnfinishedString)
Refuses text (NumberTooLarge at) = IsFirstTooLarge text at
Refuses text (Grammar at) = LeavesGrammar text at false
Refuses text (TooDeep at) = LeavesGrammar text at true
Refuses text e = ⊥
