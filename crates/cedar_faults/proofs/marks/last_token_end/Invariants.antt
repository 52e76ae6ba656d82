use Rattle.std.proofs.Common.{◌≡◌, ◌+◌, length}
use Rattle.cedar_tokens.specs.UnitSteps.{text_left}
use Rattle.cedar_tokens.proofs.UnitsSoFar.{texts}
use Rattle.cedar_faults.specs.Inside.Ends.{EndsLast}
use Rattle.cedar_faults.proofs.marks.last_token_end.Given as goal

-- the last token so far is known
abbrev pub invariant-loop-unit : goal.invariant-loop-unit
invariant-loop-unit l = record {
  can_next : (goal.iterator-loop-unit).can_next l.unit-iterator;
  is_finite : (goal.iterator-loop-unit).is_finite l.unit-iterator;
  place : l.at + length (text_left l.unit-iterator) ≡ length l.text;
  last : EndsLast (texts l.yielded) l.last;
}
