use Rattle.std.proofs.Common.{◌≡◌, ◌+◌, length}
use Rattle.cedar_tokens.specs.UnitSteps.{text_left}
use Rattle.cedar_tokens.proofs.UnitsSoFar.{texts}
use Rattle.cedar_reading.proofs.Held.{Held}
use Rattle.cedar_reading.proofs.token_check.has_tokens.Given as goal

abbrev pub invariant-loop-unit : goal.invariant-loop-unit
invariant-loop-unit l = record {
  can_next : (goal.iterator-loop-unit).can_next l.unit-iterator;
  is_finite : (goal.iterator-loop-unit).is_finite l.unit-iterator;
  place : l.at + length (text_left l.unit-iterator) ≡ length l.text;
  held : Held l.tokens (texts l.yielded) l.found;
}
