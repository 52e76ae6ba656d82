use Rattle.cedar_tokens.proofs.UnitsSoFar.{texts}
use Rattle.cedar_faults.specs.Inside.Pendings.{IsAfter}
use Rattle.cedar_faults.proofs.Afters.{kinds_of}
use Rattle.cedar_faults.proofs.probe.read_tokens.Given as goal

-- the tokens so far are read
abbrev pub invariant-loop-unit : goal.invariant-loop-unit
invariant-loop-unit l = record {
  can_next : (goal.iterator-loop-unit).can_next l.unit-iterator;
  is_finite : (goal.iterator-loop-unit).is_finite l.unit-iterator;
  after : IsAfter (kinds_of (texts l.yielded)) l.pending;
}
