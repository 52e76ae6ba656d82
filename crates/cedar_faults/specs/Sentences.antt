-- What is said about a refusal.
use Rattle.std.specs.Prelude.{◌≡◌, ℕ, List, Option, MatchOption, codes}
use Rattle.cedar_grammar.specs.declared.error.FormatError.{FormatError}
use Rattle.cedar_grammar.specs.declared.error.FormatError.TheVariants.{UnknownCharacter, UnfinishedString, NumberTooLarge, Grammar, TooDeep, NoDocument, Unsound, OutOfMemory}
use Rattle.cedar_faults.specs.declared.expectation.Expected.{Expected}
use Rattle.cedar_faults.specs.Messages.{expected_text}
use Rattle.cedar_faults.specs.Expectations.{IsExpected, NeverLeaves}

-- without the text
abbrev pub sentence : FormatError → List ℕ
sentence (UnknownCharacter at) = codes "no token begins with this character"
sentence (UnfinishedString at) = codes "this string is not finished"
sentence (NumberTooLarge at) = codes "this number is above 18446744073709551615"
sentence (Grammar at) = codes "this can't stand here"
sentence (TooDeep at) = codes "nested too deeply: more than 128 brackets and ifs"
sentence NoDocument = codes "a policy has no document"
sentence Unsound = codes "formatting changed the policies"
sentence OutOfMemory = codes "out of memory"

-- the sentence for a refusal of the text: what was expected where the text leaves the grammar
abbrev pub IsSaid : List ℕ → FormatError → List ℕ → Type 0
IsSaid text (Grammar at) said = (e : Option Expected) × MatchOption e (NeverLeaves text × (said ≡ sentence (Grammar at))) (λ e. IsExpected text e × (said ≡ expected_text e))
IsSaid text error said = said ≡ sentence error
