use Rattle.std.specs.Option.{option_to_list}
use Rattle.cedar_server.specs.PartSteps.{parts_left}
use Rattle.cedar_server.proofs.Ahead.{KindsSoFar}
use Rattle.cedar_server.proofs.semantic.kinds_ahead.Given as goal

abbrev pub invariant-loop-part : goal.invariant-loop-part
invariant-loop-part l = record {
  can_next : (goal.iterator-loop-part).can_next l.part-iterator;
  is_finite : (goal.iterator-loop-part).is_finite l.part-iterator;
  found : KindsSoFar (parts_left l.fn.parts) (parts_left l.part-iterator) (option_to_list l.first);
}
