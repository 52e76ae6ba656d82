-- What is said of a fault.
use Rattle.std.specs.Prelude.{ℕ, true, if◌then◌else◌, nat_lt, List, [], ◌∷◌, ◌++◌, Option, Some, None, chars, codes}
use Rattle.std.specs.Borrow.{Bor}
use Rattle.std.specs.Fmt.{digits}
use Rattle.cedar_grammar.specs.declared.error.FormatError.{FormatError}
use Rattle.cedar_grammar.specs.declared.error.FormatError.TheVariants.{UnknownCharacter, UnfinishedString, NumberTooLarge, TooDeep}
use Rattle.cedar_faults.specs.declared.expectation.Expected.{Expected}
use Rattle.cedar_faults.specs.Messages.{expected_text}
use Rattle.cedar_faults.specs.Sentences.{sentence}
use Rattle.cedar_faults.specs.declared.fault.Fault.{Fault}
use Rattle.cedar_faults.specs.declared.tips.Tip.{Tip}
use Rattle.cedar_faults.specs.Tips.{told, tip_for}

-- the code point of a character beyond ASCII
abbrev pub code_point : List ℕ → List ℕ
code_point (c ∷ []) = if nat_lt c 128 then [] else codes " (U+" ++ digits 16 true c ++ codes ")"
code_point cs = []

abbrev pub found_point : Option (Bor (List ℕ)) → List ℕ
found_point None = []
found_point (Some found) = code_point (chars found.now)

-- what is wrong with what is there, or what was expected there
abbrev pub sentence_of : FormatError → Expected → List ℕ
sentence_of (UnknownCharacter at) e = expected_text e ++ found_point e.found
sentence_of (UnfinishedString at) e = sentence (UnfinishedString at)
sentence_of (NumberTooLarge at) e = sentence (NumberTooLarge at)
sentence_of (TooDeep at) e = sentence (TooDeep at)
sentence_of error e = expected_text e

-- a fault in words
abbrev pub said : Fault → List ℕ
said f = sentence_of f.error f.expected

-- a sentence, with a tip after it if there is one
abbrev pub with_tip : List ℕ → Option Tip → List ℕ
with_tip sentence None = sentence
with_tip sentence (Some tip) = sentence ++ (codes "; " ++ told tip)

-- a fault in words, with its tip
abbrev pub message : Fault → List ℕ
message f = with_tip (said f) (tip_for f)
