use Rattle.cedar_tokens.proofs.UnitsSoFar.{place_more, so_far, whole, stuck}
use Rattle.cedar_reading.proofs.Walking.{large_more, first_large}
use Rattle.cedar_reading.proofs.lexeme.check_tokens.Goals as goal

pub loop-unit-preserved : goal.loop-unit-preserved
loop-unit-preserved c =
    let i = c.loop-unit.invariant in
    let e = so_far c.loop-unit.yielded _ _ _ _ (cc) c.loop-unit.yielded_by i.place in
    record {
      can_next = tt;
      is_finite = tt;
      place = place_more _ _ _ _ _ i.place c.in-Some.ensures.steps.2;
      numbers = rw c.first_too_large-too_large.ensures
          (large_more c.loop-unit.yielded c.in-Some.unit _ _ i.numbers e.place);
    }

pub fault_at-requires : goal.fault_at-requires
fault_at-requires c = stuck _ _ _ _ (so_far c.loop-unit.yielded _ _ _ _ (cc) c.loop-unit.yielded_by
    c.loop-unit.invariant.place) c.if-at-text.true c.in-None.ensures.steps.0

pub returns-in-Some-too_large-clause-tokens : goal.returns-in-Some-too_large-clause-tokens
returns-in-Some-too_large-clause-tokens c =
    let i = c.loop-unit.invariant in
    let e = so_far c.loop-unit.yielded _ _ _ _ (cc) c.loop-unit.yielded_by i.place in
    first_large _ _ _ (whole _ _ _ _ e c.if-at-text.false) (rw c.in-Some-too_large.is at i.numbers)

pub returns-in-None-too_large-clause-tokens : goal.returns-in-None-too_large-clause-tokens
returns-in-None-too_large-clause-tokens c =
    let i = c.loop-unit.invariant in
    let e = so_far c.loop-unit.yielded _ _ _ _ (cc) c.loop-unit.yielded_by i.place in
    record {
      units = _;
      split = whole _ _ _ _ e c.if-at-text.false;
      fitting = rw c.in-None-too_large.is at i.numbers;
    }
