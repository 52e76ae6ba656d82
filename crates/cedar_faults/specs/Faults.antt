-- The faults of a text: for each policy that isn't accepted, the first byte at which no accepted text continues.
use Rattle.std.specs.Prelude.{◌≡◌, ◌↔◌, ◌⊎◌, ◌+◌, ◌<◌, ◌≤◌, ℕ, IsTrue, List, [], ◌∷◌, length, take, drop, slice_range, Option, Some, None, IfSome, ⊤}
use Rattle.std.specs.Option.{option_map}
use Rattle.std.specs.Str.{IsCharBoundary}
use Rattle.cedar_tokens.specs.declared.token.Span.{Span}
use Rattle.cedar_grammar.specs.Texts.{only_tokens, Accepted}
use Rattle.cedar_grammar.specs.declared.error.FormatError.{FormatError}
use Rattle.cedar_grammar.specs.declared.error.FormatError.TheVariants.{UnknownCharacter, UnfinishedString, NumberTooLarge, Grammar, TooDeep, NoDocument, Unsound, OutOfMemory}
use Rattle.cedar_reading.specs.Pieces.{IsPiece}
use Rattle.cedar_grammar.specs.Refusals.{place_of}
use Rattle.cedar_faults.specs.declared.expectation.Expected.{Expected}
use Rattle.cedar_faults.specs.Expectations.{AreAllAfter, IsList}
use Rattle.cedar_faults.specs.Naming.{AreNamed}
use Rattle.cedar_faults.specs.FirstFaults.{IsFirstOf, Reaches}
use Rattle.cedar_faults.specs.Marks.{Marks}
use Rattle.cedar_faults.specs.Brackets.{left_open}
use Rattle.cedar_faults.specs.Recovery.{Resumes}
use Rattle.cedar_faults.specs.declared.brackets.Bracket.{Bracket}
use Rattle.cedar_faults.specs.declared.fault.Fault.{Fault}
use Rattle.cedar_faults.specs.declared.reader.Step.{Step}
use Rattle.cedar_faults.specs.declared.reader.Step.TheVariants as step

-- what could be there, and whether the text could end there
pub record Expects (text : List ℕ) (e : Expected) : Type 0 where
  pub reached : Reaches text e.at
  pub kinds : AreAllAfter (only_tokens reached.before) e.kinds.items.items
  pub named : AreNamed e.kinds.items.items e.names.items
  pub end : IsTrue e.end ↔ IsList (only_tokens reached.before)

-- what is there: nothing at the end of the text, else the marked part
abbrev pub IsFound : List ℕ → Span → ℕ → Option (List ℕ) → Type 0
IsFound text part at None = at ≡ length text
IsFound text part at (Some found) = (at < length text) × (found ≡ slice_range text part.start part.end)

-- the first fault of a text, the part of the text that it is about, what could be there, and the bracket that it leaves open
pub record IsFault (text : List ℕ) (f : Fault) : Type 0 where
  pub first : IsFirstOf text f.error
  pub place : place_of f.error ≡ Some f.expected.at
  pub part : Marks text f.error f.part
  pub expects : Expects text f.expected
  pub found : IsFound text f.part f.expected.at (option_map (λ t. t.now) f.expected.found)
  pub unclosed : f.unclosed ≡ left_open f.expected.found expects.reached.before

-- the error with its place so many bytes later
abbrev pub later : ℕ → FormatError → FormatError
later by (UnknownCharacter at) = UnknownCharacter (by + at)
later by (UnfinishedString at) = UnfinishedString (by + at)
later by (NumberTooLarge at) = NumberTooLarge (by + at)
later by (Grammar at) = Grammar (by + at)
later by (TooDeep at) = TooDeep (by + at)
later by NoDocument = NoDocument
later by Unsound = Unsound
later by OutOfMemory = OutOfMemory

abbrev pub moved_part : ℕ → Span → Span
moved_part by s = record { start = by + s.start; end = by + s.end }

abbrev pub moved_bracket : ℕ → Bracket → Bracket
moved_bracket by b = record { part = moved_part by b.part; kind = b.kind }

-- the fault so many bytes later
abbrev pub moved : ℕ → Fault → Fault
moved by f = record {
  error = later by f.error;
  part = moved_part by f.part;
  expected = record { at = by + f.expected.at; found = f.expected.found; kinds = f.expected.kinds; names = f.expected.names; end = f.expected.end };
  unclosed = option_map (moved_bracket by) f.unclosed;
}

-- an accepted policy and the rest of its line come first: n bytes
pub record BeginsWithPolicy (text : List ℕ) (n : ℕ) : Type 0 where
  pub boundary : IsCharBoundary text n
  pub piece : IsPiece text n
  pub accepted : Accepted (take n text)

-- A search of a text from the byte `from` on finds these faults, and then continues at the byte `to`: an accepted policy is passed
-- over with the rest of its line; a faulty one has its first fault, after which reading continues.
pub data SearchFinds (text : List ℕ) : ℕ → List Fault → ℕ → Type 0 where
  nothing : (from : ℕ) → SearchFinds text from [] from
  policy : (from n to : ℕ) (fs : List Fault) → BeginsWithPolicy (drop from text) n → SearchFinds text (from + n) fs to → SearchFinds text from fs to
  fault : (from n to : ℕ) (f : Fault) (fs : List Fault) → IsFault (drop from text) f → Resumes (drop from text) f.expected.at n
      → SearchFinds text (from + n) fs to → SearchFinds text from (moved from f ∷ fs) to

-- the faults of a text from a byte on: those that a search finds before all that is left is accepted
abbrev pub AreFaultsFrom : List ℕ → ℕ → List Fault → Type 0
AreFaultsFrom text from fs = (to : ℕ) × SearchFinds text from fs to × Accepted (drop to text)

abbrev pub AreFaults : List ℕ → List Fault → Type 0
AreFaults text fs = AreFaultsFrom text 0 fs

-- the first faults of a text, at most `limit`: all of them, or the first so many that a search finds
abbrev pub AreFirstFaults : List ℕ → ℕ → List Fault → Type 0
AreFirstFaults text limit fs = (AreFaults text fs × (length fs ≤ limit)) ⊎ ((length fs ≡ limit) × ((to : ℕ) × SearchFinds text 0 fs to))

-- a text, and the byte at which a search for its faults continues
pub record Search : Type 0 where
  pub text : List ℕ
  pub at : ℕ

-- the places of a fault are places of the text
pub record IsInText (text : List ℕ) (f : Fault) : Type 0 where
  pub at : f.expected.at ≤ length text
  pub start : f.part.start ≤ length text
  pub end : f.part.end ≤ length text
  pub unclosed : IfSome f.unclosed (λ b. (b.part.start ≤ length text) × (b.part.end ≤ length text))

-- what a search finds next: no fault is left; or this one, and the search continues after it
abbrev pub FindsNext : Search → Search → Option Fault → Type 0
FindsNext old new None = AreFaultsFrom old.text old.at []
FindsNext old new (Some f) = SearchFinds old.text old.at (f ∷ []) new.at

-- What comes next: an accepted policy, after which a search continues; a fault; or nothing, since all that is left is accepted.
abbrev pub IsStep : Search → Search → Step → Type 0
IsStep old new step.Policy = (n : ℕ) × BeginsWithPolicy (drop old.at old.text) n × (new.at ≡ old.at + n)
IsStep old new (step.Fault f) = FindsNext old new (Some f)
IsStep old new step.End = Accepted (drop old.at old.text)

-- the places of the fault, if it is one, are places of the text
abbrev pub IsStepInText : List ℕ → Step → Type 0
IsStepInText text (step.Fault f) = IsInText text f
IsStepInText text s = ⊤

-- the search is further on, unless it has come to the end
abbrev pub GoesOn : ℕ → ℕ → Step → Type 0
GoesOn old new step.End = new ≡ old
GoesOn old new s = old < new
