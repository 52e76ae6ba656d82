-- Errors of calls on accepted texts.
use Rattle.std.proofs.Common.{◌≡◌, ◌≢◌, refl}
use Rattle.cedar_grammar.specs.declared.error.FormatError.{FormatError}
use Rattle.cedar_grammar.specs.declared.error.FormatError.TheVariants.{UnknownCharacter, UnfinishedString, NumberTooLarge, Grammar, TooDeep, NoDocument, Unsound, OutOfMemory}
use Rattle.cedar_grammar.specs.Refusals.{OutOfMemoryOr}

-- if nothing else holds of an error, it is out of memory
pub only_memory : (Holds : FormatError → Type 0) → ((e : FormatError) → Holds e → ⊥)
    → (e : FormatError) → OutOfMemoryOr Holds e → e ≡ OutOfMemory
only_memory Holds n (UnknownCharacter at) h = absurd (n (UnknownCharacter at) h)
only_memory Holds n (UnfinishedString at) h = absurd (n (UnfinishedString at) h)
only_memory Holds n (NumberTooLarge at) h = absurd (n (NumberTooLarge at) h)
only_memory Holds n (Grammar at) h = absurd (n (Grammar at) h)
only_memory Holds n (TooDeep at) h = absurd (n (TooDeep at) h)
only_memory Holds n NoDocument h = absurd (n NoDocument h)
only_memory Holds n Unsound h = absurd (n Unsound h)
only_memory Holds n OutOfMemory h = refl

-- what holds of an error if it isn't out of memory
pub memory_or : (Holds Others : FormatError → Type 0) → ((e : FormatError) → Holds e → Others e)
    → (e : FormatError) → OutOfMemoryOr Holds e → OutOfMemoryOr Others e
memory_or Holds Others n (UnknownCharacter at) h = n (UnknownCharacter at) h
memory_or Holds Others n (UnfinishedString at) h = n (UnfinishedString at) h
memory_or Holds Others n (NumberTooLarge at) h = n (NumberTooLarge at) h
memory_or Holds Others n (Grammar at) h = n (Grammar at) h
memory_or Holds Others n (TooDeep at) h = n (TooDeep at) h
memory_or Holds Others n NoDocument h = n NoDocument h
memory_or Holds Others n Unsound h = n Unsound h
memory_or Holds Others n OutOfMemory h = tt

pub not_memory : (Holds : FormatError → Type 0) (e : FormatError) → e ≢ OutOfMemory
    → OutOfMemoryOr Holds e → Holds e
not_memory Holds (UnknownCharacter at) n h = h
not_memory Holds (UnfinishedString at) n h = h
not_memory Holds (NumberTooLarge at) n h = h
not_memory Holds (Grammar at) n h = h
not_memory Holds (TooDeep at) n h = h
not_memory Holds NoDocument n h = h
not_memory Holds Unsound n h = h
not_memory Holds OutOfMemory n h = absurd (n refl)
