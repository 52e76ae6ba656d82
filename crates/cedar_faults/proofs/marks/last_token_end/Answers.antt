use Rattle.std.proofs.Common.{◌≡◌, ◌≢◌, rules}
use Rattle.cedar_tokens.specs.declared.lexer.UnitKind.TheVariants.{Token}
use Rattle.cedar_tokens.proofs.Streaming.{no_token}
use Rattle.cedar_tokens.proofs.UnitsSoFar.{texts, place_more, so_far}
use Rattle.cedar_faults.proofs.Ending.{last_here, last_before, ended}
use Rattle.cedar_faults.proofs.marks.last_token_end.Goals as goal

pub loop-unit-preserved-then-eq : goal.loop-unit-preserved-then-eq
loop-unit-preserved-then-eq c =
    let i = c.loop-unit.invariant in
    let g = c.in-Some.ensures.steps in
    let e = so_far c.loop-unit.yielded _ _ _ _ (cc) c.loop-unit.yielded_by i.place in
    let is_token : c.in-Some.unit.kind ≡ Token = search rules in
    record {
      can_next = tt;
      is_finite = tt;
      place = place_more _ _ _ _ _ i.place g.2;
      last = last_here c.loop-unit.yielded c.in-Some.unit c.loop-unit.at e.place (rw is_token at g.1);
    }

pub loop-unit-preserved : goal.loop-unit-preserved
loop-unit-preserved c =
    let i = c.loop-unit.invariant in
    let g = c.in-Some.ensures.steps in
    let other : c.in-Some.unit.kind ≢ Token = search rules in
    record {
      can_next = tt;
      is_finite = tt;
      place = place_more _ _ _ _ _ i.place g.2;
      last = last_before c.loop-unit.yielded c.in-Some.unit c.loop-unit.last i.last
          (no_token c.in-Some.unit.kind _ g.1 other);
    }

pub returns : goal.returns
returns c =
    let i = c.loop-unit.invariant in
    let e = so_far c.loop-unit.yielded _ _ _ _ (cc) c.loop-unit.yielded_by i.place in (
      texts c.loop-unit.yielded,
      ended c.fault_prevents_split.ensures _ _ _ _ e c.in-None.ensures.steps.0 c.requires,
      i.last,
    )
