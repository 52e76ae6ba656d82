-- What a run of a stream says, by how it ends.
use Rattle.std.proofs.Common.{ℕ, ℤ, List, Option, Err}
use Rattle.std.specs.Io.KnownBytes.{Keeps}
use Rattle.cedar_streams.specs.Texts.{FailsToGive}
use Rattle.cedar_streams.specs.declared.reading.ReadFault.{ReadFault}
use Rattle.cedar_streams.specs.declared.reading.ReadFault.TheVariants.{Read, NotUtf8, OutOfMemory}
use Rattle.cedar_policy_formatter.specs.Streams.{FailsToRead, TellsRun, run_fault}

-- there was no text
pub unread : (old new : Option (List ℕ)) (f : ReadFault) → FailsToGive old new f
    → FailsToRead old new (run_fault f)
unread old new Read h = tt
unread old new NotUtf8 h = h
unread old new OutOfMemory h = tt

module _ (width : ℕ) (indent : ℤ) (old new held holds : Option (List ℕ)) where
  pub without_text : (f : ReadFault) → FailsToGive old new f → Keeps held holds
      → TellsRun width indent old new held holds (Err (run_fault f))
  without_text Read h k = (tt, k)
  without_text NotUtf8 h k = (h, k)
  without_text OutOfMemory h k = (tt, k)
