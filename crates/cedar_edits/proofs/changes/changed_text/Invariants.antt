use Rattle.std.proofs.Common.{ℕ, List, string_bytes}
use Rattle.std.specs.Vec.Iter.{into_iter_items}
use Rattle.cedar_edits.specs.Changes.{MakeInTurn}
use Rattle.cedar_edits.proofs.changes.changed_text.Given as goal

abbrev pub invariant-loop-change : goal.invariant-loop-change
invariant-loop-change l = (new : List ℕ)
    → MakeInTurn l.encoding (into_iter_items l.change-iterator) (string_bytes l.changed) new
    → MakeInTurn l.encoding l.fn.changes.items l.text new
