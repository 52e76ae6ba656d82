use Rattle.std.proofs.Common.{◌≡◌, ◌≢◌, rules, subst}
use Rattle.cedar_server.specs.declared.parts.PartKind.TheVariants.{Token}
use Rattle.cedar_server.specs.PartSteps.{parts_left, part_text}
use Rattle.cedar_server.specs.Parts.{HasPartKind}
use Rattle.cedar_server.proofs.Reading.{no_token_part}
use Rattle.cedar_server.proofs.Ahead.{skip_so_far, first_so_far, two_ahead, one_ahead}
use Rattle.cedar_server.proofs.semantic.kinds_ahead.Goals as goal

pub returns-in-Some-first : goal.returns-in-Some-first
returns-in-Some-first c =
    let g = c.in-Some.ensures.steps in
    let is_token : c.in-Some.part.kind ≡ Token = search rules in
    let token = subst (λ k. HasPartKind k (part_text c.in-Some.part)) is_token g.1 in
    rw c.in-Some-first.is (two_ahead _ _ _ _ c.in-Some-first.field-0 _ (rw c.in-Some-first.is at c.loop-part.invariant.found) g.0 g.2 token
    c.kind_of-kind.ensures)

pub loop-part-preserved-in-None-first : goal.loop-part-preserved-in-None-first
loop-part-preserved-in-None-first c =
    let g = c.in-Some.ensures.steps in
    let is_token : c.in-Some.part.kind ≡ Token = search rules in
    let token = subst (λ k. HasPartKind k (part_text c.in-Some.part)) is_token g.1 in
    record {
      can_next = tt;
      is_finite = tt;
      found = first_so_far _ _ _ _ _ (rw c.in-None-first.is at c.loop-part.invariant.found) g.0 g.2 token
          c.kind_of-kind.ensures;
    }

pub loop-part-preserved : goal.loop-part-preserved
loop-part-preserved c =
    let g = c.in-Some.ensures.steps in
    let other : c.in-Some.part.kind ≢ Token = search rules in
    record {
      can_next = tt;
      is_finite = tt;
      found = skip_so_far _ _ _ _ _ c.loop-part.invariant.found g.0 g.2
          (no_token_part c.in-Some.part.kind _ g.1 other);
    }

pub returns : goal.returns
returns c = one_ahead (parts_left c.args.parts) _ c.loop-part.first c.in-None.ensures.steps.0
    c.loop-part.invariant.found
