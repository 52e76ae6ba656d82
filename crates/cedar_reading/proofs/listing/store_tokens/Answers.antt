use Rattle.std.proofs.Common.{rules, arith, ◌∙◌}
use Rattle.cedar_reading.proofs.Left.{are_lexed, left_first, left_step, left_all}
use Rattle.cedar_reading.proofs.listing.store_tokens.Goals as goal

pub loop-at-init : goal.loop-at-init
loop-at-init c = record {
  leading_text = c.text_before_all-leading.utf8;
  left = left_first c.args.text.now c.args.lexemes.now c.reserve.new.self.items
      c.text_before_all-leading.result.now
      (c.in_ok-reserve.ensures.items ∙ c.clear.ensures.items) c.text_before_all-leading.ensures;
}

pub loop-at-preserved : goal.loop-at-preserved
loop-at-preserved c = record {
  leading_text = search rules;
  left = left_step _ _ _ _ _ _ c.loop-at.at _ c.loop-at.invariant.left c.loop-at-test.true
      (are_lexed c.args.text.now c.args.lexemes.now c.utf8.text c.requires)
      (rw (c.new.ensures, c.split_after.ensures.trailing) at c.in_ok-push.ensures.items)
      c.split_after.ensures.ahead;
}

pub returns : goal.returns
returns c = left_all _ _ _ _ c.loop-at.at c.loop-at.invariant.left (omega arith) c.utf8.text
    c.requires
