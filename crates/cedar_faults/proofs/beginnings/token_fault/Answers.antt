use Rattle.std.proofs.Common.{◌<◌, length, refl, sym, ◌∙◌, arith}
use Rattle.std.specs.Prelude.{drop}
use Rattle.cedar_tokens.specs.Units.{IsFirstUnit}
use Rattle.cedar_tokens.proofs.FirstUnit.{unit_nonempty}
use Rattle.cedar_tokens.proofs.Scanning.{quote_kind, other_kind}
use Rattle.cedar_tokens.proofs.UnitsSoFar.{boundary_at, one_more, place_more, so_far, stuck, whole}
use Rattle.cedar_grammar.specs.Numbers.{is_too_large}
use Rattle.cedar_reading.proofs.Semicolons.{none_more}
use Rattle.cedar_faults.proofs.beginnings.token_fault.Goals as goal

pub returns-then-is_too_large : goal.returns-then-is_too_large
returns-then-is_too_large c =
    let i = c.loop-unit.invariant in
    let g = c.in-Some.ensures.steps in
    let e = so_far c.loop-unit.yielded _ _ _ _ (cc) c.loop-unit.yielded_by i.place in
    let f = one_more _ _ _ _ _ _ e g.0 g.2 in
    let here : IsFirstUnit (drop c.loop-unit.at c.args.text.now) c.in-Some.unit.text.now =
    rw e.left at g.0 in
    record {
      inside = omega (arith, f.inside, unit_nonempty c.in-Some.unit.text.now here.kind);
      boundary = boundary_at _ _ _ _ c.utf8.text e;
      before = _;
      scans = e.scans;
      place = e.place;
      fitting = i.fitting;
      stops = (refl, (c.in-Some.unit.text.now, here, sym c.is_too_large.ensures ∙ c.if-is_too_large.true));
    }

pub loop-unit-preserved : goal.loop-unit-preserved
loop-unit-preserved c =
    let i = c.loop-unit.invariant in
    record {
      can_next = tt;
      is_finite = tt;
      place = place_more _ _ _ _ _ i.place c.in-Some.ensures.steps.2;
      fitting = none_more is_too_large c.loop-unit.yielded c.in-Some.unit i.fitting
          (sym c.is_too_large.ensures ∙ c.if-is_too_large.false);
    }

pub returns-then-at-text : goal.returns-then-at-text
returns-then-at-text c =
    let i = c.loop-unit.invariant in
    let e = so_far c.loop-unit.yielded _ _ _ _ (cc) c.loop-unit.yielded_by i.place in
    record {
      units = _;
      split = whole _ _ _ _ e (omega (arith, c.if-at-text.true));
      fitting = i.fitting;
    }

pub returns-then-as_bytes-at-eq34 : goal.returns-then-as_bytes-at-eq34
returns-then-as_bytes-at-eq34 c =
    let i = c.loop-unit.invariant in
    let e = so_far c.loop-unit.yielded _ _ _ _ (cc) c.loop-unit.yielded_by i.place in
    let l : c.loop-unit.at < length c.args.text.now = omega (arith, e.inside, c.if-at-text.false) in
    record {
      inside = l;
      boundary = boundary_at _ _ _ _ c.utf8.text e;
      before = _;
      scans = e.scans;
      place = e.place;
      fitting = i.fitting;
      stops = (
        refl,
        stuck _ _ _ _ e l c.in-None.ensures.steps.0,
        sym (quote_kind _ c.loop-unit.at (rw c.as_bytes.ensures.value at c.if-as_bytes-at-eq34.true)),
      );
    }

pub returns-else-as_bytes-at-eq34 : goal.returns-else-as_bytes-at-eq34
returns-else-as_bytes-at-eq34 c =
    let i = c.loop-unit.invariant in
    let e = so_far c.loop-unit.yielded _ _ _ _ (cc) c.loop-unit.yielded_by i.place in
    let l : c.loop-unit.at < length c.args.text.now = omega (arith, e.inside, c.if-at-text.false) in
    record {
      inside = l;
      boundary = boundary_at _ _ _ _ c.utf8.text e;
      before = _;
      scans = e.scans;
      place = e.place;
      fitting = i.fitting;
      stops = (
        refl,
        stuck _ _ _ _ e l c.in-None.ensures.steps.0,
        sym (other_kind _ c.loop-unit.at (rw c.as_bytes.ensures.value at c.if-as_bytes-at-eq34.false)),
      );
    }
