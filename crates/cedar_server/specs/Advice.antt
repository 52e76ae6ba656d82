-- The answers to requests about faults, and about what could come.
use Rattle.std.specs.Prelude.{◌≡◌, ℕ, List, string_bytes}
use Rattle.cedar_edits.specs.declared.positions.Encoding.{Encoding}
use Rattle.cedar_edits.specs.declared.positions.Position.{Position}
use Rattle.cedar_edits.specs.declared.changes.Range.{Range}
use Rattle.cedar_server.specs.Completions.{AreCompletions}
use Rattle.cedar_server.specs.Fixes.{AreFixes}
use Rattle.cedar_server.specs.declared.messages.Answer.{Answer}
use Rattle.cedar_server.specs.declared.messages.Answer.TheVariants as answer

-- the answer with the fixes of the faults that a range touches, in the document with this URI and text
abbrev pub GivesFixes : Encoding → List ℕ → Range → List ℕ → Answer → Type 0
GivesFixes e uri range text (answer.Fixes name fixes) = (string_bytes name ≡ uri) × AreFixes e text range fixes.items
GivesFixes e uri range text a = ⊥

-- the answer with what could come at a position of a text
abbrev pub Completes : Encoding → Position → List ℕ → Answer → Type 0
Completes e position text (answer.Completions completions) = AreCompletions e text position completions
Completes e position text a = ⊥
