use Rattle.std.proofs.Common.{◌≡◌, ◌+◌, length}
use Rattle.cedar_server.specs.PartSteps.{parts_left}
use Rattle.cedar_server.specs.Inside.Selecting.{nesting_of}
use Rattle.cedar_server.proofs.Selecting.{BlocksSoFar}
use Rattle.cedar_server.proofs.selections.blocks.Given as goal

abbrev pub invariant-loop-part : goal.invariant-loop-part
invariant-loop-part l = record {
  can_next : (goal.iterator-loop-part).can_next l.part-iterator;
  is_finite : (goal.iterator-loop-part).is_finite l.part-iterator;
  place : l.end + length (parts_left l.part-iterator) ≡ length l.text;
  so_far : BlocksSoFar l.text l.end (nesting_of l.nesting) (parts_left l.part-iterator) l.blocks.items;
}
