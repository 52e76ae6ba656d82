use Rattle.std.proofs.Common.{◌∙◌, sym, rules}
use Rattle.cedar_tokens.proofs.UnitsSoFar.{texts, place_more, so_far}
use Rattle.cedar_faults.proofs.Bracketing.{bracket_unit, none_among, other_unit}
use Rattle.cedar_faults.proofs.Ending.{ended}
use Rattle.cedar_faults.proofs.brackets.brackets.Goals as goal

pub loop-unit-init : goal.loop-unit-init
loop-unit-init c = record {
  can_next = tt;
  is_finite = tt;
  place = search rules;
  found = c.new-brackets.ensures.items ∙ sym (none_among 0);
}

pub loop-unit-preserved-then-not-is_bracket : goal.loop-unit-preserved-then-not-is_bracket
loop-unit-preserved-then-not-is_bracket c =
    let i = c.loop-unit.invariant in
    record {
      can_next = tt;
      is_finite = tt;
      place = place_more _ _ _ _ _ i.place c.in-Some.ensures.steps.2;
      found = other_unit c.loop-unit.yielded c.in-Some.unit _ _ _ i.found c.kind_of-kind.ensures c.is_bracket.ensures
          c.if-not-is_bracket.true;
    }

pub loop-unit-preserved : goal.loop-unit-preserved
loop-unit-preserved c =
    let i = c.loop-unit.invariant in
    let e = so_far c.loop-unit.yielded _ _ _ _ (cc) c.loop-unit.yielded_by i.place in
    record {
      can_next = tt;
      is_finite = tt;
      place = place_more _ _ _ _ _ i.place c.in-Some.ensures.steps.2;
      found = bracket_unit c.loop-unit.yielded c.in-Some.unit c.loop-unit.end _ _ _ _ i.found e.place c.kind_of-kind.ensures
          c.is_bracket.ensures c.if-not-is_bracket.false c.in_ok-push.ensures.items;
    }

pub returns : goal.returns
returns c =
    let i = c.loop-unit.invariant in
    let e = so_far c.loop-unit.yielded _ _ _ _ (cc) c.loop-unit.yielded_by i.place in
    (texts c.loop-unit.yielded, ended c.fault_prevents_split.ensures _ _ _ _ e c.in-None.ensures.steps.0 c.requires, i.found)
