-- What became of the files of a run.
use Rattle.std.specs.Prelude.{◌≡◌, ◌⊎◌, ℕ, ◌-◌, ◌^◌, ◌<◌, List, Bool, true, false, not, count_by, length, min}
use Rattle.cedar_grammar.specs.declared.error.FormatError.{FormatError}
use Rattle.cedar_grammar.specs.declared.error.FormatError.TheVariants.{OutOfMemory}
use Rattle.cedar_program.specs.declared.folder.folder.Outcome.{Outcome}
use Rattle.cedar_program.specs.declared.folder.folder.Outcome.TheVariants.{Formatted, Empty, Unformatted, Replaced, NotUtf8, Refused, Unread, Unwritten, LeftBeside}
use Rattle.cedar_files.specs.declared.counts.Counts.{Counts}

-- the file isn't its own output
abbrev pub is_changed : Outcome → Bool
is_changed (Unformatted bytes output) = true
is_changed Replaced = true
is_changed o = false

-- the file is left as it is
abbrev pub is_same : Outcome → Bool
is_same Formatted = true
is_same Empty = true
is_same o = false

-- the memory for the file was missing
abbrev pub is_memory : FormatError → Bool
is_memory OutOfMemory = true
is_memory e = false

-- the file is refused
abbrev pub is_refused : Outcome → Bool
is_refused NotUtf8 = true
is_refused (Refused e bytes) = not (is_memory e)
is_refused o = false

-- the file wasn't read, or not replaced, or the memory for it was missing
abbrev pub is_failed : Outcome → Bool
is_failed (Refused e bytes) = is_memory e
is_failed (Unread e) = true
is_failed (Unwritten e) = true
is_failed (LeftBeside e beside) = true
is_failed o = false

-- n, or the highest `usize` if that is less
abbrev pub limited : ℕ → ℕ
limited n = min n (2 ^ 64 - 1)

-- how many pass a test
abbrev pub number_of : (Outcome → Bool) → List Outcome → ℕ
number_of test outcomes = limited (count_by test outcomes)

-- these numbers are those of the files
pub record IsCountOf (c : Counts) (outcomes : List Outcome) : Type 0 where
  pub changed : c.changed ≡ number_of is_changed outcomes
  pub same : c.same ≡ number_of is_same outcomes
  pub refused : c.refused ≡ number_of is_refused outcomes
  pub failed : c.failed ≡ number_of is_failed outcomes

-- some of them pass a test
abbrev pub SomeIs : (Outcome → Bool) → List Outcome → Type 0
SomeIs test outcomes = 0 < count_by test outcomes

-- something went wrong: a file was refused or failed, or something else did, or not all files were done
abbrev pub WentWrong : List Outcome → ℕ → ℕ → Type 0
WentWrong outcomes all faults = SomeIs is_refused outcomes ⊎ SomeIs is_failed outcomes ⊎ (0 < faults) ⊎ (length outcomes < all)

-- the status of a run: 1 if something went wrong; else 3 if it only checks, and a file isn't formatted; else 0
pub record IsStatus (only : Bool) (outcomes : List Outcome) (all faults status : ℕ) : Type 0 where
  pub wrong : WentWrong outcomes all faults → status ≡ 1
  pub unformatted : ¬ (WentWrong outcomes all faults) → only ≡ true → SomeIs is_changed outcomes → status ≡ 3
  pub written : ¬ (WentWrong outcomes all faults) → only ≡ false → status ≡ 0
  pub formatted : ¬ (WentWrong outcomes all faults) → ¬ (SomeIs is_changed outcomes) → status ≡ 0
