use Rattle.std.proofs.Common.{◌≡◌, ◌+◌, length}
use Rattle.cedar_tokens.specs.UnitSteps.{text_left}
use Rattle.cedar_tokens.proofs.UnitsSoFar.{texts}
use Rattle.cedar_reading.proofs.Walking.{FindsLarge}
use Rattle.cedar_reading.proofs.lexeme.check_tokens.Given as goal

abbrev pub invariant-loop-unit : goal.invariant-loop-unit
invariant-loop-unit l = record {
  can_next : (goal.iterator-loop-unit).can_next l.unit-iterator;
  is_finite : (goal.iterator-loop-unit).is_finite l.unit-iterator;
  place : l.at + length (text_left l.unit-iterator) ≡ length l.text;
  numbers : FindsLarge (texts l.yielded) l.too_large;
}
