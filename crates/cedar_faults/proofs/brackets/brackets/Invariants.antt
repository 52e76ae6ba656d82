use Rattle.std.proofs.Common.{◌≡◌, ◌+◌, length}
use Rattle.cedar_tokens.specs.UnitSteps.{text_left}
use Rattle.cedar_tokens.proofs.UnitsSoFar.{texts}
use Rattle.cedar_faults.specs.Brackets.{brackets}
use Rattle.cedar_faults.proofs.brackets.brackets.Given as goal

-- the brackets so far
abbrev pub invariant-loop-unit : goal.invariant-loop-unit
invariant-loop-unit l = record {
  can_next : (goal.iterator-loop-unit).can_next l.unit-iterator;
  is_finite : (goal.iterator-loop-unit).is_finite l.unit-iterator;
  place : l.end + length (text_left l.unit-iterator) ≡ length l.text;
  found : l.brackets.items ≡ brackets 0 (texts l.yielded);
}
