use Rattle.std.proofs.Common.{◌≡◌, ◌+◌, false, length}
use Rattle.std.specs.List.{list_any}
use Rattle.cedar_tokens.specs.UnitSteps.{text_left}
use Rattle.cedar_tokens.proofs.UnitsSoFar.{texts}
use Rattle.cedar_reading.specs.Pieces.{is_semicolon}
use Rattle.cedar_policy_formatter.proofs.ranges.cuts.through_semicolon.Given as goal

abbrev pub invariant-loop-unit : goal.invariant-loop-unit
invariant-loop-unit l = record {
  can_next : (goal.iterator-loop-unit).can_next l.unit-iterator;
  is_finite : (goal.iterator-loop-unit).is_finite l.unit-iterator;
  place : l.end + length (text_left l.unit-iterator) ≡ length l.text;
  none : list_any is_semicolon (texts l.yielded) ≡ false;
}
