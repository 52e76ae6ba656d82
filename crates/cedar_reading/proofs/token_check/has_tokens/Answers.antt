use Rattle.std.proofs.Common.{◌≡◌, ◌≢◌, ◌≤◌, ◌∙◌, rules, arith, length, sym, ap}
use Rattle.std.proofs.lemmas.Bool.Decides.{Decides-eqb}
use Rattle.cedar_tokens.specs.Listing.{token_value}
use Rattle.cedar_tokens.specs.declared.lexer.UnitKind.TheVariants.{Token}
use Rattle.cedar_tokens.proofs.Streaming.{no_token}
use Rattle.cedar_tokens.proofs.UnitsSoFar.{place_more, scans_so_far, so_far, whole}
use Rattle.cedar_reading.proofs.Held.{held_skip, held_token, held_more, held_other, held_all, held_end, token_at}
use Rattle.cedar_reading.proofs.token_check.has_tokens.Goals as goal

pub returns-in_default : goal.returns-in_default
returns-in_default c =
    let g = c.in-Some.ensures.steps in
    let is_token : c.in-Some.unit.kind ≡ Token = search rules in
    let none : length c.args.tokens.now ≤ c.loop-unit.found = search rules in (
      λ f. absurd cc,
      λ x. absurd (held_more _ _ _ _ _ _ (scans_so_far c.loop-unit.yielded _ _ _
          (cc) c.loop-unit.yielded_by) c.loop-unit.invariant.held g.0 (rw is_token at g.1) none x),
    )

pub returns-then-not-same_value : goal.returns-then-not-same_value
returns-then-not-same_value c =
    let g = c.in-Some.ensures.steps in
    let is_token : c.in-Some.unit.kind ≡ Token = search rules in
    let next = token_at c.args.tokens.now c.loop-unit.found c.in-Some-get.token.now (search rules)
    (search rules) in (
      λ f. absurd cc,
      λ x. absurd (held_other _ _ _ _ _ _ _ (scans_so_far c.loop-unit.yielded _ _ _
          (cc) c.loop-unit.yielded_by) c.loop-unit.invariant.held g.0 (rw is_token at g.1) next
          (λ e. (let t = c.same_value.ensures.1 (e ∙ ap token_value (sym c.text.ensures)) in let f =
          c.if-not-same_value.true in cc)) x),
    )

pub loop-unit-preserved-then-eq : goal.loop-unit-preserved-then-eq
loop-unit-preserved-then-eq c =
    let g = c.in-Some.ensures.steps in
    let is_token : c.in-Some.unit.kind ≡ Token = search rules in
    let next = token_at c.args.tokens.now c.loop-unit.found c.in-Some-get.token.now (search rules)
    (search rules) in
    record {
      can_next = tt;
      is_finite = tt;
      place = place_more _ _ _ _ _ c.loop-unit.invariant.place g.2;
      held = held_token _ c.loop-unit.yielded c.in-Some.unit _ _ c.loop-unit.invariant.held
          (rw is_token at g.1) (search rules) next
          (c.same_value.ensures.0 c.if-not-same_value.false ∙ ap token_value c.text.ensures);
    }

pub loop-unit-preserved : goal.loop-unit-preserved
loop-unit-preserved c =
    let g = c.in-Some.ensures.steps in
    let other : c.in-Some.unit.kind ≢ Token = search rules in
    record {
      can_next = tt;
      is_finite = tt;
      place = place_more _ _ _ _ _ c.loop-unit.invariant.place g.2;
      held = held_skip _ c.loop-unit.yielded c.in-Some.unit _ c.loop-unit.invariant.held
          (no_token c.in-Some.unit.kind _ g.1 other);
    }

pub returns-then-at-text : goal.returns-then-at-text
returns-then-at-text c =
    let found = Decides-eqb c.loop-unit.found (length c.args.tokens.now) in (
      λ t. held_all _ _ _ _ (whole _ _ _ _ (so_far c.loop-unit.yielded _ _ _ _ (cc)
          c.loop-unit.yielded_by c.loop-unit.invariant.place) (omega (arith, c.if-at-text.true)))
          c.loop-unit.invariant.held (found.0 t),
      λ x. found.1 (held_end _ _ _ _ _ (scans_so_far c.loop-unit.yielded _ _ _
          (cc) c.loop-unit.yielded_by) c.loop-unit.invariant.held c.in-None.ensures.steps.0 x).1,
    )

pub returns-else-at-text : goal.returns-else-at-text
returns-else-at-text c =
    let at = Decides-eqb c.loop-unit.at (length c.args.text.now) in (
      λ t. absurd (c.if-at-text.false (at.0 t)),
      λ x. at.1 (omega (
        arith,
        c.loop-unit.invariant.place,
        ap length (held_end _ _ _ _ _ (scans_so_far c.loop-unit.yielded _ _ _
            (cc) c.loop-unit.yielded_by) c.loop-unit.invariant.held c.in-None.ensures.steps.0 x).0,
      )),
    )
