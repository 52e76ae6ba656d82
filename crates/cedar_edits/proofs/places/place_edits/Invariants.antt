use Rattle.std.specs.Vec.Iter.{into_iter_items}
use Rattle.cedar_edits.specs.Positions.{BeginsLine}
use Rattle.cedar_edits.proofs.Placing.{ArePlaced}
use Rattle.cedar_edits.proofs.places.place_edits.Given as goal

abbrev pub invariant-loop-edit : goal.invariant-loop-edit
invariant-loop-edit l = ArePlaced l.encoding l.text l.fn.edits.items
    (into_iter_items l.edit-iterator) l.placed.items × BeginsLine l.text l.line.number l.line.start
