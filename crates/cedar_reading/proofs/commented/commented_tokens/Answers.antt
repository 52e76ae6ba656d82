use Rattle.std.proofs.Common.{rules, map, arith, ap, ◌∙◌}
use Rattle.std.specs.Str.{trim}
use Rattle.std.proofs.lemmas.Str.{IsCharBoundary-start}
use Rattle.cedar_tokens.specs.Places.{AreTokenSpans}
use Rattle.cedar_tokens.proofs.Between.{first_boundary, commented_more, commented_list, commented_spans}
use Rattle.cedar_tokens.proofs.Collecting.{spans_in_order}
use Rattle.cedar_reading.proofs.Commenting.{lexemes_between, none_left, next_left, next_token, lexeme_kind, boundary_after, to_end, after_last}
use Rattle.cedar_reading.proofs.commented.commented_tokens.Goals as goal

pub text_before-leading-requires-clause-from : goal.text_before-leading-requires-clause-from
text_before-leading-requires-clause-from c = IsCharBoundary-start c.args.text.now c.utf8.text

pub text_before-leading-requires-clause-to : goal.text_before-leading-requires-clause-to
text_before-leading-requires-clause-to c = rw c.requires.places (first_boundary c.args.text.now _
    (lexemes_between c.args.text.now c.args.lexemes.now c.utf8.text c.requires).places)

pub loop-at-init : goal.loop-at-init
loop-at-init c = record {
  leading_text = c.text_before-leading.utf8;
  left = none_left c.args.text.now c.reserve.new.self.items c.text_before-leading.result.now
      c.args.lexemes.now c.utf8.text c.requires
      (c.in_ok-reserve.ensures.items ∙ c.clear.ensures.items) c.text_before-leading.ensures;
}

pub text_before-gap-requires-clause-from : goal.text_before-gap-requires-clause-from
text_before-gap-requires-clause-from c =
    (next_left _ _ _ _ _ _ c.loop-at.invariant.left c.loop-at-test.true).so_far.places.0.end

pub text_before-gap-requires-clause-to : goal.text_before-gap-requires-clause-to
text_before-gap-requires-clause-to c =
    rw to_end (boundary_after _ _ _ c.args.lexemes.now c.loop-at.at c.loop-at.invariant.left)

pub text_before-gap-requires-clause-order : goal.text_before-gap-requires-clause-order
text_before-gap-requires-clause-order c = rw to_end
    (next_left _ _ _ _ _ _ c.loop-at.invariant.left c.loop-at-test.true).so_far.places.0.order

pub commented_token-requires-clause-token : goal.commented_token-requires-clause-token
commented_token-requires-clause-token c =
    next_token _ _ _ _ _ _ c.loop-at.invariant.left c.loop-at-test.true

pub commented_token-requires-clause-kind : goal.commented_token-requires-clause-kind
commented_token-requires-clause-kind c =
    lexeme_kind c.args.lexemes.now c.loop-at.at _ c.requires.kinds c.loop-at-test.true

pub loop-at-preserved : goal.loop-at-preserved
loop-at-preserved c =
    let n = next_left _ _ _ _ _ _ c.loop-at.invariant.left c.loop-at-test.true in
    let made = c.in_ok-commented_token.ensures in
    record {
      leading_text = search rules;
      left = record {
        so_far = commented_more _ _ _ _ _ _ _ _ _ n.so_far made.span
            (made.text ∙ n.here) made.proper made.leading
            (made.trailing ∙ ap trim c.split_gap.ensures.trailing) c.split_gap.ensures.leading
            (rw to_end at c.text_before-gap.ensures) c.in_ok-push.ensures.items;
        texts = n.texts;
      };
    }

pub returns-clause-listing : goal.returns-clause-listing
returns-clause-listing c = commented_list _ _ _ _ _ c.loop-at.invariant.left.so_far
    (after_last c.args.lexemes.now c.loop-at.at (omega arith)) c.get_comment.ensures

spans : (c : goal.After-get_comment)
    → AreTokenSpans c.args.text.now (map (λ w. w.span) c.loop-at.tokens.items)
spans c = commented_spans _ _ _ _ c.loop-at.invariant.left.so_far
    (after_last c.args.lexemes.now c.loop-at.at (omega arith))

pub returns-clause-spans : goal.returns-clause-spans
returns-clause-spans c = spans c

pub returns-clause-order : goal.returns-clause-order
returns-clause-order c = spans_in_order c.args.text.now _ (spans c)
