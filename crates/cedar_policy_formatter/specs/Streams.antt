-- What a run reads, writes and answers.
use Rattle.std.specs.Prelude.{◌↔◌, ℕ, ℤ, List, Bool, IsTrue, Option, Result, Ok, Err, ⊤}
use Rattle.std.specs.Str.{IsUtf8}
use Rattle.std.specs.Io.KnownBytes.{Appends, Keeps}
use Rattle.cedar_streams.specs.Texts.{GivesAll, GivesText, AppendsPart}
use Rattle.cedar_streams.specs.declared.reading.ReadFault.{ReadFault}
use Rattle.cedar_streams.specs.declared.reading.ReadFault.TheVariants as without
use Rattle.cedar_grammar.specs.Refusals.{OutOfMemoryOr}
use Rattle.cedar_grammar.specs.declared.error.FormatError.TheVariants.{OutOfMemory}
use Rattle.cedar_written.specs.Output.{IsOutputOf}
use Rattle.cedar_written.specs.Refusals.{Refuses}
use Rattle.cedar_written.specs.Texts.{Accepted}
use Rattle.cedar_policy_formatter.specs.declared.fmt.stream.RunFault.{RunFault}
use Rattle.cedar_policy_formatter.specs.declared.fmt.stream.RunFault.TheVariants.{Read, NotUtf8, Format, Write}

-- the fault of a run that has no text
abbrev pub run_fault : ReadFault → RunFault
run_fault without.Read = Read
run_fault without.NotUtf8 = NotUtf8
run_fault without.OutOfMemory = Format OutOfMemory

-- why there is nothing to write: a read failed; all was read, and isn't UTF-8; a text is refused, or out of memory
abbrev pub FailsToRead : Option (List ℕ) → Option (List ℕ) → RunFault → Type 0
FailsToRead old new Read = ⊤
FailsToRead old new NotUtf8 = (x : List ℕ) × GivesAll old new x × ¬ (IsUtf8 x)
FailsToRead old new (Format e) = OutOfMemoryOr (λ e. (x : List ℕ) × GivesText old new x × Refuses x e) e
FailsToRead old new Write = ⊥

-- y is the output of an accepted text, which was read to its end
abbrev pub IsOutputOfAll : ℕ → ℤ → Option (List ℕ) → Option (List ℕ) → List ℕ → Type 0
IsOutputOfAll width indent old new y = (x : List ℕ) × GivesText old new x × IsOutputOf width indent x y

-- what a run read and wrote: with success all of the output, with `Write` a prefix, with any other fault nothing
abbrev pub TellsRun : ℕ → ℤ → Option (List ℕ) → Option (List ℕ) → Option (List ℕ) → Option (List ℕ) → Result Unit RunFault → Type 0
TellsRun width indent old new held holds (Ok _) = (y : List ℕ) × IsOutputOfAll width indent old new y × Appends held holds y
TellsRun width indent old new held holds (Err Write) = (y : List ℕ) × IsOutputOfAll width indent old new y × AppendsPart held holds y
TellsRun width indent old new held holds (Err e) = FailsToRead old new e × Keeps held holds

-- what a check read and says: whether the text is its own output
abbrev pub TellsCheck : ℕ → ℤ → Option (List ℕ) → Option (List ℕ) → Result Bool RunFault → Type 0
TellsCheck width indent old new (Ok b) = (x : List ℕ) × GivesText old new x × Accepted x × (IsTrue b ↔ IsOutputOf width indent x x)
TellsCheck width indent old new (Err e) = FailsToRead old new e
