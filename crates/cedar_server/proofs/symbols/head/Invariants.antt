use Rattle.std.proofs.Common.{◌≡◌, ◌+◌, length}
use Rattle.std.specs.Prelude.{string_bytes}
use Rattle.cedar_server.specs.PartSteps.{parts_left}
use Rattle.cedar_server.proofs.Heading.{HeadSoFar}
use Rattle.cedar_server.proofs.symbols.head.Given as goal

abbrev pub invariant-loop-part : goal.invariant-loop-part
invariant-loop-part l = record {
  can_next : (goal.iterator-loop-part).can_next l.part-iterator;
  is_finite : (goal.iterator-loop-part).is_finite l.part-iterator;
  place : l.at + length (parts_left l.part-iterator) ≡ length l.section;
  so_far : HeadSoFar l.section l.start (parts_left l.part-iterator) l.at l.before (string_bytes l.name);
}
