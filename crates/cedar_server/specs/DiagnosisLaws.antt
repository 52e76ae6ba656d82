-- Laws of what is reported to an editor.
use Rattle.std.specs.Prelude.{◌≡◌, ◌↔◌, ℕ, List, []}
use Rattle.cedar_grammar.specs.Texts.{Accepted}
use Rattle.cedar_edits.specs.declared.positions.Encoding.{Encoding}
use Rattle.cedar_server.specs.declared.diagnoses.Diagnosis.{Diagnosis}
use Rattle.cedar_server.specs.Diagnoses.{AreDiagnoses}

-- an accepted text has no diagnoses, and any other has some
abbrev pub NoneIfAccepted : Type 0
NoneIfAccepted = (e : Encoding) (text : List ℕ) (ds : List Diagnosis) → AreDiagnoses e text ds → (ds ≡ []) ↔ Accepted text
