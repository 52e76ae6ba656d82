use Rattle.std.proofs.Common.{rules, arith, sym, ◌∙◌, refl}
use Rattle.cedar_reading.proofs.Commenting.{to_end}
use Rattle.cedar_reading.proofs.Left.{are_lexed}
use Rattle.cedar_reading.proofs.PlainLeft.{plain_first, plain_stays, plain_left, plain_moved, plain_all}
use Rattle.cedar_reading.proofs.listing.store_plain_tokens.Goals as goal
use Rattle.cedar_reading.proofs.listing.store_plain_tokens.Goals.{then-not-begins_trailing+in_ok-push, else-not-begins_trailing+then-not-leave_to_last, else-not-begins_trailing+else-not-leave_to_last}

pub loop-at-init : goal.loop-at-init
loop-at-init c = record {
  leading_text = c.text_before_all-leading.utf8;
  comma_leading_text = search rules;
  comma_trailing_text = search rules;
  left = plain_first c.args.text.now c.args.lexemes.now c.reserve.new.self.items _ _
      c.text_before_all-leading.result.now
      (c.in_ok-reserve.ensures.items ∙ c.clear.ensures.items) refl refl
      c.text_before_all-leading.ensures;
}

pub loop-at-preserved : goal.loop-at-preserved
loop-at-preserved c =
    let lexed = are_lexed c.args.text.now c.args.lexemes.now c.utf8.text c.requires in
    let begins = rw to_end at c.begins_trailing.ensures in
    elim c.if-not-begins_trailing.branch [
      | then-not-begins_trailing+in_ok-push w ↦
          rw (w.tokens-is, w.comma_leading-is, w.comma_trailing-is) (record {
            leading_text = search rules;
            comma_leading_text = search rules;
            comma_trailing_text = search rules;
            left = plain_stays _ _ _ _ _ _ _ _ _ _ c.loop-at.at _ c.loop-at.invariant.left
                c.loop-at-test.true lexed (sym begins ∙ w.if-not-begins_trailing.true)
                (rw (w.after_comma-token.ensures, c.split_after.ensures.trailing) at
                w.in_ok-push.ensures.items) refl refl c.split_after.ensures.ahead;
          })
      | else-not-begins_trailing+then-not-leave_to_last w ↦
          rw (w.tokens-is, w.comma_leading-is, w.comma_trailing-is) (record {
            leading_text = search rules;
            comma_leading_text = search rules;
            comma_trailing_text = search rules;
            left = plain_moved _ _ _ _ _ _ _ _ _ c.loop-at.at c.loop-at.invariant.left
                c.loop-at-test.true lexed (sym begins ∙ w.if-not-begins_trailing.false)
                (rw w.if-not-leave_to_last.true at w.leave_to_last.ensures)
                c.split_after.ensures.trailing c.split_after.ensures.ahead;
          })
      | else-not-begins_trailing+else-not-leave_to_last w ↦
          rw (w.tokens-is, w.comma_leading-is, w.comma_trailing-is) (record {
            leading_text = search rules;
            comma_leading_text = search rules;
            comma_trailing_text = search rules;
            left = plain_left _ _ _ _ _ _ _ _ _ c.loop-at.at c.loop-at.invariant.left
                c.loop-at-test.true lexed (sym begins ∙ w.if-not-begins_trailing.false)
                (rw w.if-not-leave_to_last.false at w.leave_to_last.ensures)
                c.split_after.ensures.trailing c.split_after.ensures.ahead;
          })
    ]

pub returns : goal.returns
returns c = plain_all _ _ _ _ _ _ c.loop-at.at c.loop-at.invariant.left (omega arith) c.utf8.text
    c.requires
