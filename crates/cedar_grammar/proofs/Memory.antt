-- Errors that are `OutOfMemory`, or of which something holds.
use Rattle.std.specs.Prelude.{◌≢◌}
use Rattle.std.proofs.Common.{refl}
use Rattle.cedar_grammar.specs.declared.error.FormatError.{FormatError}
use Rattle.cedar_grammar.specs.declared.error.FormatError.TheVariants.{OutOfMemory}
use Rattle.cedar_grammar.specs.Refusals.{OutOfMemoryOr}

pub without_memory : (Holds : FormatError → Type 0) (e : FormatError) → e ≢ OutOfMemory
    → OutOfMemoryOr Holds e → Holds e
without_memory Holds OutOfMemory n h = absurd (n refl)
without_memory Holds e n h = h

pub memory_map : (P Q : FormatError → Type 0) → ((e : FormatError) → P e → Q e) → (e : FormatError)
    → OutOfMemoryOr P e → OutOfMemoryOr Q e
memory_map P Q f OutOfMemory h = tt
memory_map P Q f e h = f e h
