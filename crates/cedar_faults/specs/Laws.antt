-- Laws of faults.
use Rattle.std.specs.Prelude.{◌≡◌, ◌<◌, ◌≤◌, ◌↔◌, ℕ, List, [], Some}
use Rattle.cedar_grammar.specs.Texts.{Accepted}
use Rattle.cedar_grammar.specs.declared.error.FormatError.{FormatError}
use Rattle.cedar_grammar.specs.Refusals.{Refuses, place_of}
use Rattle.cedar_faults.specs.declared.fault.Fault.{Fault}
use Rattle.cedar_faults.specs.Faults.{AreFaults, AreFirstFaults}
use Rattle.cedar_faults.specs.FirstFaults.{IsFirstOf, Reaches}

-- an accepted text has no faults, and any other has some
abbrev pub NoneIfAccepted : Type 0
NoneIfAccepted = (text : List ℕ) (fs : List Fault) → AreFaults text fs → (fs ≡ []) ↔ Accepted text

-- so it is with its first faults, if any are asked for
abbrev pub FirstNoneIfAccepted : Type 0
FirstNoneIfAccepted = (text : List ℕ) (limit : ℕ) (fs : List Fault) → 0 < limit → AreFirstFaults text limit fs → (fs ≡ []) ↔ Accepted text

-- no accepted text begins as this one does up to any place after its first fault
abbrev pub FirstIsFurthest : Type 0
FirstIsFurthest = (text : List ℕ) (e : FormatError) (m n : ℕ) → IsFirstOf text e → place_of e ≡ Some m → Reaches text n → n ≤ m

-- the first fault of a text is at the place of its refusal, or before it
abbrev pub FirstIsBeforeRefusal : Type 0
FirstIsBeforeRefusal = (text : List ℕ) (e r : FormatError) (m n : ℕ) → IsFirstOf text e → Refuses text r → place_of e ≡ Some m → place_of r ≡ Some n → m ≤ n
