-- Why the formatter refuses texts.
use Rattle.std.specs.Prelude.{◌≡◌, ℕ, List, ◌⊎◌}
use Rattle.cedar_grammar.specs.declared.error.FormatError.{FormatError}
use Rattle.cedar_grammar.specs.declared.error.FormatError.TheVariants.{OutOfMemory}
use Rattle.cedar_written.specs.Refusals.{Refuses}
use Rattle.cedar_written.specs.Texts.{Accepted}

-- out of memory
abbrev pub IsMemory : FormatError → Type 0
IsMemory e = e ≡ OutOfMemory

-- of two texts, the first is refused; or the first is accepted, and the second is refused
abbrev pub RefusesOne : List ℕ → List ℕ → FormatError → Type 0
RefusesOne a b e = Refuses a e ⊎ (Accepted a × Refuses b e)
