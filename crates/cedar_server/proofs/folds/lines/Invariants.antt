use Rattle.std.proofs.Common.{◌≡◌, ◌+◌, length}
use Rattle.cedar_server.specs.PartSteps.{parts_left}
use Rattle.cedar_server.proofs.Lining.{LinesSoFar}
use Rattle.cedar_server.proofs.folds.lines.Given as goal

abbrev pub invariant-loop-part : goal.invariant-loop-part
invariant-loop-part l = record {
  can_next : (goal.iterator-loop-part).can_next l.part-iterator;
  is_finite : (goal.iterator-loop-part).is_finite l.part-iterator;
  place : l.end + length (parts_left l.part-iterator) ≡ length l.text;
  so_far : LinesSoFar l.text l.end l.line (parts_left l.part-iterator) l.lines.items;
}
