use Rattle.std.proofs.Common.{◌≡◌, ◌≢◌, rules}
use Rattle.cedar_tokens.specs.declared.lexer.UnitKind.TheVariants.{Token}
use Rattle.cedar_tokens.proofs.Gaps.{gap_end, no_tokens_push, begins_token, no_next, next_token}
use Rattle.cedar_tokens.proofs.Streaming.{no_token}
use Rattle.cedar_tokens.proofs.UnitsSoFar.{texts_more, place_more, so_far, boundary_at}
use Rattle.cedar_tokens.proofs.ahead.gap_len.Goals as goal

pub returns-then-eq-clause-gap : goal.returns-then-eq-clause-gap
returns-then-eq-clause-gap c =
    let is_token : c.in-Some.unit.kind ≡ Token = search rules in
    let g = c.in-Some.ensures.steps in
    gap_end _ _ _ _
    (so_far c.loop-unit.yielded _ _ _ _ (cc) c.loop-unit.yielded_by c.loop-unit.invariant.place)
    c.loop-unit.invariant.apart (begins_token _ _ g.0 (rw is_token at g.1))

pub returns-then-eq-clause-some : goal.returns-then-eq-clause-some
returns-then-eq-clause-some c =
    let is_token : c.in-Some.unit.kind ≡ Token = search rules in
    let g = c.in-Some.ensures.steps in
    next_token _ _ _ _ _ c.utf8.text (so_far c.loop-unit.yielded _ _ _ _
    (cc) c.loop-unit.yielded_by c.loop-unit.invariant.place) g.0 (rw is_token at g.1)

pub returns-then-eq-clause-boundary : goal.returns-then-eq-clause-boundary
returns-then-eq-clause-boundary c = boundary_at _ _ _ _ c.utf8.text
    (so_far c.loop-unit.yielded _ _ _ _ (cc) c.loop-unit.yielded_by c.loop-unit.invariant.place)

pub loop-unit-preserved : goal.loop-unit-preserved
loop-unit-preserved c =
    let no_token_kind : c.in-Some.unit.kind ≢ Token = search rules in
    let g = c.in-Some.ensures.steps in
    record {
      can_next = tt;
      is_finite = tt;
      place = place_more _ _ _ _ _ c.loop-unit.invariant.place g.2;
      apart = rw (texts_more c.loop-unit.yielded c.in-Some.unit) (no_tokens_push _ _
          c.loop-unit.invariant.apart (no_token c.in-Some.unit.kind _ g.1 no_token_kind));
    }

pub returns-clause-gap : goal.returns-clause-gap
returns-clause-gap c = gap_end _ _ _ _
    (so_far c.loop-unit.yielded _ _ _ _ (cc) c.loop-unit.yielded_by c.loop-unit.invariant.place)
    c.loop-unit.invariant.apart (λ u f. absurd (c.in-None.ensures.steps.0 u f.kind f.begins))

pub returns-clause-boundary : goal.returns-clause-boundary
returns-clause-boundary c = boundary_at _ _ _ _ c.utf8.text
    (so_far c.loop-unit.yielded _ _ _ _ (cc) c.loop-unit.yielded_by c.loop-unit.invariant.place)

pub returns-clause-none : goal.returns-clause-none
returns-clause-none c = no_next _ _ _ _ (so_far c.loop-unit.yielded _ _ _ _
    (cc) c.loop-unit.yielded_by c.loop-unit.invariant.place) c.in-None.ensures.steps.0
