use Rattle.std.proofs.Common.{◌∙◌, sym, ap, subst}
use Rattle.cedar_tokens.specs.Kinds.{is}
use Rattle.cedar_tokens.specs.declared.kind.Kind.{Kind}
use Rattle.cedar_reading.proofs.Steps.{kind_test}
use Rattle.cedar_server.specs.PartSteps.{part_text}
use Rattle.cedar_server.specs.Parts.{HasPartKind}
use Rattle.cedar_server.specs.Inside.Heads.{IsHead}
use Rattle.cedar_server.proofs.Reading.{no_token_part, place_more}
use Rattle.cedar_server.proofs.Heading.{not_token, before_start, from_start, skip_so_far, token_so_far, ends_here, all_so_far}
use Rattle.cedar_server.proofs.symbols.head.Goals as goal

pub loop-part-preserved-in_default : goal.loop-part-preserved-in_default
loop-part-preserved-in_default c =
    let i = c.loop-part.invariant in
    let g = c.in-Some.ensures.steps in
    record {
      can_next = tt;
      is_finite = tt;
      place = place_more _ _ _ _ _ i.place g.2;
      so_far = skip_so_far _ _ _ _ _ _ _ _ i.so_far g.0 g.2 (not_token (part_text c.in-Some.part) c.loop-part.at c.args.start (no_token_part c.in-Some.part.kind _ g.1 c.in_default.not-Token));
    }

pub loop-part-preserved-then-begin-start : goal.loop-part-preserved-then-begin-start
loop-part-preserved-then-begin-start c =
    let i = c.loop-part.invariant in
    let g = c.in-Some.ensures.steps in
    record {
      can_next = tt;
      is_finite = tt;
      place = place_more _ _ _ _ _ i.place g.2;
      so_far = skip_so_far _ _ _ _ _ _ _ _ i.so_far g.0 g.2 (before_start (part_text c.in-Some.part) c.loop-part.at c.args.start c.if-begin-start.true);
    }

pub returns-then-eq : goal.returns-then-eq
returns-then-eq c =
    let i = c.loop-part.invariant in
    let g = c.in-Some.ensures.steps in
    let token = subst (λ k. HasPartKind k (part_text c.in-Some.part)) c.in-Token.is g.1 in
    let closing = ap (is Kind.RParen) (sym c.kind_of-kind.ensures) ∙ sym (c.eq.ensures ∙ kind_test Kind.RParen _) ∙ c.if-eq.true in
    subst (IsHead c.args.section.now c.args.start) (sym c.in_ok-push_token.ensures)
    (ends_here _ _ _ _ _ _ _ _ i.so_far g.0 g.2 (from_start (part_text c.in-Some.part) c.loop-part.at c.args.start token c.if-begin-start.false) closing)

pub loop-part-preserved : goal.loop-part-preserved
loop-part-preserved c =
    let i = c.loop-part.invariant in
    let g = c.in-Some.ensures.steps in
    let token = subst (λ k. HasPartKind k (part_text c.in-Some.part)) c.in-Token.is g.1 in
    let open' = ap (is Kind.RParen) (sym c.kind_of-kind.ensures) ∙ sym (c.eq.ensures ∙ kind_test Kind.RParen _) ∙ c.if-eq.false in
    record {
      can_next = tt;
      is_finite = tt;
      place = place_more _ _ _ _ _ i.place g.2;
      so_far = rw (c.in_ok-push_token.ensures, c.kind_of-kind.ensures)
          (token_so_far _ _ _ _ _ _ _ _ i.so_far g.0 g.2 (from_start (part_text c.in-Some.part) c.loop-part.at c.args.start token c.if-begin-start.false) open');
    }

pub returns : goal.returns
returns c = all_so_far _ _ _ _ _ _ c.in-None.ensures.steps.0 c.loop-part.invariant.so_far
