use Rattle.std.proofs.Common.{◌≢◌}
use Rattle.std.specs.Prelude.{codes}
use Rattle.std.proofs.lemmas.Bool.Decides.{Decides-eqb}
use Rattle.std.proofs.lemmas.Slice.Eq.{slice_eq-Decides}
use Rattle.cedar_tokens.proofs.UnitsSoFar.{boundary_at, one_more, place_more, scans_so_far, so_far}
use Rattle.cedar_reading.specs.Pieces.{is_semicolon}
use Rattle.cedar_reading.proofs.Semicolons.{differs, none_more}
use Rattle.cedar_policy_formatter.proofs.Cutting.{ends_in_semicolon}
use Rattle.cedar_policy_formatter.proofs.ranges.cuts.through_semicolon.Goals as goal

pub returns-then-eq-clause-end : goal.returns-then-eq-clause-end
returns-then-eq-clause-end c =
    let i = c.loop-unit.invariant in
    let g = c.in-Some.ensures.steps in
    let same = slice_eq-Decides Decides-eqb c.in-Some.unit.text.now _ c.eq.result c.eq.ensures in
    let e = so_far c.loop-unit.yielded _ _ _ _ (cc) c.loop-unit.yielded_by i.place in
    ends_in_semicolon _ _ _ _ _ (one_more _ _ _ _ _ _ e g.0 g.2) (same.0 c.if-eq.true) i.none

pub returns-then-eq-clause-boundary : goal.returns-then-eq-clause-boundary
returns-then-eq-clause-boundary c =
    let g = c.in-Some.ensures.steps in
    let e =
    so_far c.loop-unit.yielded _ _ _ _ (cc) c.loop-unit.yielded_by c.loop-unit.invariant.place in
    boundary_at _ _ _ _ c.utf8.text (one_more _ _ _ _ _ _ e g.0 g.2)

pub loop-unit-preserved : goal.loop-unit-preserved
loop-unit-preserved c =
    let i = c.loop-unit.invariant in
    let g = c.in-Some.ensures.steps in
    let same = slice_eq-Decides Decides-eqb c.in-Some.unit.text.now _ c.eq.result c.eq.ensures in
    let other : c.in-Some.unit.text.now ≢ codes ";" =
    λ e. (let t = same.1 e in let f = c.if-eq.false in cc) in
    record {
      can_next = tt;
      is_finite = tt;
      place = place_more _ _ _ _ _ i.place g.2;
      none = none_more is_semicolon c.loop-unit.yielded c.in-Some.unit i.none
          (differs _ (codes ";") other);
    }

pub returns-clause-end : goal.returns-clause-end
returns-clause-end c = record {
  units = _;
  rest = _;
  scans = scans_so_far c.loop-unit.yielded _ _ _ (cc) c.loop-unit.yielded_by;
  stops = c.in-None.ensures.steps.0;
  none = c.loop-unit.invariant.none;
}
