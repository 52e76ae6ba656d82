-- What is read to its end, and what is written.
use Rattle.std.specs.Prelude.{◌≡◌, ◌<◌, ◌++◌, ℕ, List, length, Bool, IsTrue, Option, Result, Err, ⊤}
use Rattle.std.specs.Str.{IsUtf8}
use Rattle.std.specs.Io.KnownBytes.{Appends, Consumes, IsAtEnd}
use Rattle.cedar_streams.specs.declared.reading.ReadFault.{ReadFault}
use Rattle.cedar_streams.specs.declared.reading.ReadFault.TheVariants.{Read, NotUtf8, OutOfMemory}

-- x is all that was left to read, and nothing is left
abbrev pub GivesAll : Option (List ℕ) → Option (List ℕ) → List ℕ → Type 0
GivesAll old new x = Consumes old new x × IsAtEnd new

-- and it is UTF-8
abbrev pub GivesText : Option (List ℕ) → Option (List ℕ) → List ℕ → Type 0
GivesText old new x = GivesAll old new x × IsUtf8 x

-- why there is no text: a read failed; everything was read, but isn't UTF-8; out of memory
abbrev pub FailsToGive : Option (List ℕ) → Option (List ℕ) → ReadFault → Type 0
FailsToGive old new Read = ⊤
FailsToGive old new NotUtf8 = (x : List ℕ) × GivesAll old new x × ¬ (IsUtf8 x)
FailsToGive old new OutOfMemory = ⊤

-- after `Read` the reader has failed; after success or any other fault it has failed if it had before
abbrev pub TellsRead : {T : Type 0} → Bool → Bool → Result T ReadFault → Type 0
TellsRead old new (Err Read) = IsTrue new
TellsRead old new r = new ≡ old

-- a beginning of y was appended, but not all of y
abbrev pub AppendsPart : Option (List ℕ) → Option (List ℕ) → List ℕ → Type 0
AppendsPart held holds y = (front rest : List ℕ) × (y ≡ front ++ rest) × (0 < length rest) × Appends held holds front
