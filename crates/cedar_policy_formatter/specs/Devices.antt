-- How the failures of a reader and a writer relate to the answer of a run.
use Rattle.std.specs.Prelude.{Bool, IsTrue, ◌≡◌, Result, Err}
use Rattle.cedar_policy_formatter.specs.declared.fmt.stream.RunFault.{RunFault}
use Rattle.cedar_policy_formatter.specs.declared.fmt.stream.RunFault.TheVariants.{Read, Write}

-- with `Read` the reader has failed; with success and every other fault it has failed if and only if it had before
abbrev pub TellsRead : {T : Type 0} → Bool → Bool → Result T RunFault → Type 0
TellsRead old new (Err Read) = IsTrue new
TellsRead old new r = new ≡ old

-- with `Write` the writer has failed; with success and every other fault it has failed if and only if it had before
abbrev pub TellsWrite : {T : Type 0} → Bool → Bool → Result T RunFault → Type 0
TellsWrite old new (Err Write) = IsTrue new
TellsWrite old new r = new ≡ old
