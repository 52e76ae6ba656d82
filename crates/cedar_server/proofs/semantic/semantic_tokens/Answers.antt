use Rattle.std.proofs.Common.{◌∙◌, subst}
use Rattle.cedar_server.specs.PartSteps.{part_text}
use Rattle.cedar_server.specs.Parts.{HasPartKind}
use Rattle.cedar_server.proofs.Reading.{place_more}
use Rattle.cedar_server.proofs.Classing.{skip_so_far, comment_so_far, token_so_far, all_so_far}
use Rattle.cedar_server.proofs.semantic.semantic_tokens.Goals.{in-Token, in-Comment}
use Rattle.cedar_server.proofs.semantic.semantic_tokens.Goals as goal

pub parts-preserved-in-Other : goal.parts-preserved-in-Other
parts-preserved-in-Other c =
    let i = c.parts.invariant in
    let g = c.in-Some.ensures.steps in
    let other = subst (λ k. HasPartKind k (part_text c.in-Some.part)) c.in-Other.is g.1 in
    record {
      place = place_more _ _ _ _ _ i.place g.2;
      classed = skip_so_far _ _ _ _ _ _ _ i.classed g.0 g.2 other.0 other.1;
    }

pub parts-preserved : goal.parts-preserved
parts-preserved c =
    let i = c.parts.invariant in
    let g = c.in-Some.ensures.steps in
    record {
      place = place_more _ _ _ _ _ i.place g.2;
      classed = elim c.match-part.branch [
        | in-Token w ↦ token_so_far _ _ _ _ _ _ _ i.classed g.0 g.2 _ _ w.kinds_ahead-next.ensures
            w.kind_of-kind.result c.match-part.class c.match-part.before c.push.new.self.items
            (subst (λ k. HasPartKind k (part_text c.in-Some.part)) w.in-Token.is g.1) w.kind_of-kind.ensures
            (w.class-is ∙ w.class_of-class.ensures) w.before-is c.in_ok-push.ensures.items
        | in-Comment w ↦
            let comment = subst (λ k. HasPartKind k (part_text c.in-Some.part)) w.in-Comment.is g.1 in
            comment_so_far _ _ _ _ _ _ _ i.classed g.0 g.2
            c.match-part.class c.match-part.before c.push.new.self.items
            comment.0 comment.1 w.class-is w.before-is c.in_ok-push.ensures.items
      ];
    }

pub returns : goal.returns
returns c = all_so_far _ _ _ _ _ c.in_default.ensures.steps.0 c.parts.invariant.classed
