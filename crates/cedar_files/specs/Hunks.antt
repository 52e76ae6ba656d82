-- Which parts of the changes a diff shows.
use Rattle.std.specs.Prelude.{◌≡◌, ◌≢◌, ◌↔◌, ◌≤◌, ◌<◌, ◌+◌, ◌-◌, ℕ, List, Bool, true, false, Some, count_by, length, slice_get, take}
use Rattle.std.specs.List.{All, AllPairs, Any}
use Rattle.cedar_files.specs.declared.changes.Change.{Change}
use Rattle.cedar_files.specs.declared.changes.Change.TheVariants.{Keep, Remove, Add}
use Rattle.cedar_files.specs.declared.hunks.Hunk.{Hunk}
use Rattle.cedar_files.specs.declared.hunks.Lines.{Lines}
use Rattle.cedar_files.specs.declared.hunks.Passed.{Passed}

-- the m-th of the changes doesn't keep a line
abbrev pub IsChangedAt : List Change → ℕ → Type 0
IsChangedAt changes m = (m < length changes) × (slice_get changes m ≢ Some Keep)

-- one that doesn't keep a line is at most three from the n-th
abbrev pub IsNearChange : List Change → ℕ → Type 0
IsNearChange changes n = (m : ℕ) × IsChangedAt changes m × (m ≤ n + 3) × (n ≤ m + 3)

-- the n-th of the changes is in a hunk
abbrev pub IsIn : ℕ → Hunk → Type 0
IsIn n hunk = (hunk.start ≤ n) × (n < hunk.end)

-- it is in one of the hunks
abbrev pub IsShown : List Hunk → ℕ → Type 0
IsShown hunks n = Any (IsIn n) hunks

-- the hunks are in order, and between two of them is something that isn't shown
abbrev pub AreApart : List Hunk → Type 0
AreApart hunks = AllPairs (λ first next. first.end < next.start) hunks

-- the hunks of a diff: what they show is all that is at most three from a change
pub record AreHunksOf (changes : List Change) (hunks : List Hunk) : Type 0 where
  pub shown : (n : ℕ) → n < length changes → IsShown hunks n ↔ IsNearChange changes n
  pub apart : AreApart hunks
  pub some : All (λ hunk. hunk.start < hunk.end) hunks
  pub inside : All (λ hunk. hunk.end ≤ length changes) hunks

-- hunks that are in order and aren't empty
pub record AreInOrder (hunks : List Hunk) : Type 0 where
  pub apart : AreApart hunks
  pub some : All (λ hunk. hunk.start < hunk.end) hunks

-- none begins or ends after this one
pub record AreBefore (hunks : List Hunk) (more : Hunk) : Type 0 where
  pub starts : All (λ hunk. hunk.start ≤ more.start) hunks
  pub ends : All (λ hunk. hunk.end ≤ more.end) hunks

-- the line is one of the first text
abbrev pub is_old : Change → Bool
is_old Add = false
is_old change = true

-- the line is one of the second text
abbrev pub is_new : Change → Bool
is_new Remove = false
is_new change = true

-- these are the numbers of what is passed: some of the changes, and the lines that these are about
pub record Passes (changes : List Change) (passed : Passed) : Type 0 where
  pub within : passed.changes ≤ length changes
  pub old : passed.old_lines ≡ count_by is_old (take passed.changes changes)
  pub new : passed.new_lines ≡ count_by is_new (take passed.changes changes)

-- the numbers of the lines between two places, as a diff has them: how many there are, and the first one, counted from 1, or,
-- where there is none, the one before
pub record IsNumberedBy (start end : ℕ) (lines : Lines) : Type 0 where
  pub count : lines.count ≡ end - start
  pub first : start < end → lines.first ≡ start + 1
  pub none : end ≤ start → lines.first ≡ start
