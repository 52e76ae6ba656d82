-- What private contracts say about faults.
use Rattle.std.specs.Prelude.{◌≡◌, ◌≤◌, ℕ, List, [], ◌∷◌, length, string_bytes}
use Rattle.cedar_faults.specs.Faults.{SearchFinds, IsInText}
use Rattle.cedar_faults.specs.Words.{message}
use Rattle.cedar_c.specs.declared.calls.NextFault.{NextFault}

-- the first fault of a text with its message, after which a search continues at `next`
pub record IsNextFault (text : List ℕ) (found : NextFault) : Type 0 where
  pub first : SearchFinds text 0 (found.fault ∷ []) found.next
  pub inside : IsInText text found.fault
  pub next : found.next ≤ length text
  pub said : string_bytes found.message ≡ message found.fault
