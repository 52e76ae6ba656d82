-- The answers to calls from C.
use Rattle.std.specs.Prelude.{◌≡◌, ◌+◌, ◌<◌, ◌≤◌, ◌⊎◌, ◌++◌, ℕ, ℤ, List, [], ◌∷◌, length, drop, Option, Some, None, Result, Ok, Err}
use Rattle.std.specs.Str.{IsUtf8}
use Rattle.cedar_tokens.specs.declared.token.Span.{Span}
use Rattle.cedar_grammar.specs.Refusals.{OutOfMemoryOr}
use Rattle.cedar_grammar.specs.declared.error.FormatError.{FormatError}
use Rattle.cedar_grammar.specs.declared.error.FormatError.TheVariants.{UnknownCharacter, UnfinishedString, NumberTooLarge, Grammar, TooDeep, NoDocument, Unsound, OutOfMemory}
use Rattle.cedar_written.specs.Lists.{HaveEqualLists}
use Rattle.cedar_written.specs.Output.{IsOutputOf}
use Rattle.cedar_written.specs.Refusals.{Refuses}
use Rattle.cedar_written.specs.Texts.{Accepted}
use Rattle.cedar_faults.specs.declared.brackets.Bracket.{Bracket}
use Rattle.cedar_faults.specs.declared.fault.Fault.{Fault}
use Rattle.cedar_faults.specs.Faults.{AreFaults, SearchFinds, moved_part}
use Rattle.cedar_faults.specs.Words.{message}
use Rattle.cedar_policy_formatter.specs.Places.{line_at, column_at}
use Rattle.cedar_policy_formatter.specs.Refused.{RefusesOne}
use Rattle.cedar_c.specs.declared.answer.Answer.{Answer}
use Rattle.cedar_c.specs.declared.answer.PlaceAnswer.{PlaceAnswer}
use Rattle.cedar_c.specs.declared.answer.FaultAnswer.{FaultAnswer}
use Rattle.cedar_c.specs.declared.answer.CallFault.{CallFault}
use Rattle.cedar_c.specs.declared.answer.CallFault.TheVariants.{NotUtf8, NoRoom, Format}

-- ---- numbers for C

-- the answer that says why a text is refused: the number of its kind, and its byte if it has one
abbrev pub answer_of_error : FormatError → Answer
answer_of_error (UnknownCharacter at) = record { kind = 1; number = at }
answer_of_error (UnfinishedString at) = record { kind = 2; number = at }
answer_of_error (NumberTooLarge at) = record { kind = 3; number = at }
answer_of_error (Grammar at) = record { kind = 4; number = at }
answer_of_error (TooDeep at) = record { kind = 5; number = at }
answer_of_error NoDocument = record { kind = 6; number = 0 }
answer_of_error Unsound = record { kind = 7; number = 0 }
answer_of_error OutOfMemory = record { kind = 8; number = 0 }

-- the answer that says a call's result, or why it has none
abbrev pub answer_of : Result ℕ CallFault → Answer
answer_of (Ok n) = record { kind = 0; number = n }
answer_of (Err (Format e)) = answer_of_error e
answer_of (Err NotUtf8) = record { kind = 9; number = 0 }
answer_of (Err (NoRoom n)) = record { kind = 10; number = n }

-- the answer reports a result, or that there is none, of which this holds
abbrev pub Answers : (Result ℕ CallFault → Type 0) → Answer → Type 0
Answers Holds answer = (r : Result ℕ CallFault) × Holds r × (answer ≡ answer_of r)

-- 1 where it holds, 0 where it does not
abbrev pub IsYesOrNo : Type 0 → ℕ → Type 0
IsYesOrNo Holds n = ((n ≡ 1) × Holds) ⊎ ((n ≡ 0) × ¬ Holds)

-- ---- answers about texts

-- the layout was written to the start of the room, and the rest is unchanged; or it doesn't fit, and nothing was written
abbrev pub TellsPut : List ℕ → List ℕ → List ℕ → Result ℕ CallFault → Type 0
TellsPut y old new (Ok n) = (n ≡ length y) × (n ≤ length old) × (new ≡ y ++ drop n old)
TellsPut y old new (Err (NoRoom n)) = (n ≡ length y) × (length old < n) × (new ≡ old)
TellsPut y old new (Err e) = ⊥

-- why the bytes aren't an accepted text: they aren't UTF-8, or the text is refused
abbrev pub FailsOn : List ℕ → CallFault → Type 0
FailsOn text NotUtf8 = ¬ (IsUtf8 text)
FailsOn text (Format e) = IsUtf8 text × OutOfMemoryOr (Refuses text) e
FailsOn text (NoRoom n) = ⊥

-- one of the two isn't a text; or both are, and one is refused
abbrev pub FailsOnOne : List ℕ → List ℕ → CallFault → Type 0
FailsOnOne a b NotUtf8 = ¬ (IsUtf8 a) ⊎ ¬ (IsUtf8 b)
FailsOnOne a b (Format e) = IsUtf8 a × IsUtf8 b × OutOfMemoryOr (RefusesOne a b) e
FailsOnOne a b (NoRoom n) = ⊥

-- the text's output was written into the room, or doesn't fit; or there is no output, and the room is unchanged
abbrev pub TellsFormat : ℕ → ℤ → List ℕ → List ℕ → List ℕ → Result ℕ CallFault → Type 0
TellsFormat w i text old new (Ok n) = (y : List ℕ) × IsUtf8 text × IsOutputOf w i text y × TellsPut y old new (Ok n)
TellsFormat w i text old new (Err (NoRoom n)) = (y : List ℕ) × IsUtf8 text × IsOutputOf w i text y × TellsPut y old new (Err (NoRoom n))
TellsFormat w i text old new (Err e) = FailsOn text e × (new ≡ old)

-- whether the accepted text is its own output
abbrev pub TellsIsFormatted : ℕ → ℤ → List ℕ → Result ℕ CallFault → Type 0
TellsIsFormatted w i text (Ok n) = IsUtf8 text × Accepted text × IsYesOrNo (IsOutputOf w i text text) n
TellsIsFormatted w i text (Err e) = FailsOn text e

-- whether the lists of both accepted texts without trailing commas are equal by value
abbrev pub TellsSameLayout : List ℕ → List ℕ → Result ℕ CallFault → Type 0
TellsSameLayout a b (Ok n) = (IsUtf8 a × IsUtf8 b) × (Accepted a × Accepted b) × IsYesOrNo (HaveEqualLists a b) n
TellsSameLayout a b (Err e) = FailsOnOne a b e

-- where the byte is in the text; or that the bytes aren't UTF-8
abbrev pub TellsPlace : List ℕ → ℕ → PlaceAnswer → Type 0
TellsPlace text at p = (IsUtf8 text × (p ≡ record { kind = 0; line = line_at text at; column = column_at text at }))
    ⊎ (¬ (IsUtf8 text) × (p ≡ record { kind = 9; line = 0; column = 0 }))

-- ---- faults

-- the answer of this kind, without a fault
abbrev pub no_fault : ℕ → FaultAnswer
no_fault k = record { kind = k; at = 0; start = 0; end = 0; unclosed_start = 0; unclosed_end = 0; next = 0; length = 0 }

-- the bytes of the bracket that is left open, so many bytes later; from 0 to 0 if there is none
abbrev pub unclosed_part : ℕ → Option Bracket → Span
unclosed_part by None = record { start = 0; end = 0 }
unclosed_part by (Some b) = moved_part by b.part

-- the answer about a fault of what follows the byte `from`, after which reading continues n bytes later
abbrev pub fault_answer : ℕ → ℕ → Fault → FaultAnswer
fault_answer from n f = record {
  kind = (answer_of_error f.error).kind;
  at = from + f.expected.at;
  start = from + f.part.start;
  end = from + f.part.end;
  unclosed_start = (unclosed_part from f.unclosed).start;
  unclosed_end = (unclosed_part from f.unclosed).end;
  next = from + n;
  length = length (message f);
}

-- the message was written to the start of the room if it fits there; the rest is unchanged
abbrev pub PutsIfRoom : List ℕ → List ℕ → List ℕ → Type 0
PutsIfRoom y old new = ((length y ≤ length old) × (new ≡ y ++ drop (length y) old)) ⊎ ((length old < length y) × (new ≡ old))

-- The first fault of the text from the byte `from` on: there is none; or this one, whose message was written into the room if it
-- fits, and a search for faults continues at `next`. Or the bytes aren't UTF-8, or memory was refused.
pub data TellsFault (text : List ℕ) (from : ℕ) (old new : List ℕ) : FaultAnswer → Type 0 where
  none : IsUtf8 (drop from text) → AreFaults (drop from text) [] → new ≡ old → TellsFault text from old new (no_fault 0)
  fault : (n : ℕ) (f : Fault) → IsUtf8 (drop from text) → SearchFinds (drop from text) 0 (f ∷ []) n
      → PutsIfRoom (message f) old new → TellsFault text from old new (fault_answer from n f)
  out_of_memory : new ≡ old → TellsFault text from old new (no_fault 8)
  not_utf8 : ¬ (IsUtf8 (drop from text)) → new ≡ old → TellsFault text from old new (no_fault 9)
