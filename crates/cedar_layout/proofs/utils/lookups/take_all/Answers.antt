use Rattle.std.proofs.Common.{◌≡◌, ◌<◌, get_or, arith, length, map, sym, ap, ◌∙◌}
use Rattle.std.proofs.lemmas.List.{length-map}
use Rattle.std.proofs.Math.ListN.{length-set}
use Rattle.cedar_layout.specs.Lookups.{shown}
use Rattle.cedar_layout.proofs.HandedOut.{shows_emptied, same_parts}
use Rattle.cedar_layout.proofs.Ranges.{left_step, got_step, element_is}
use Rattle.cedar_layout.proofs.utils.lookups.take_all.Goals as goal

pub loop-token-preserved : goal.loop-token-preserved
loop-token-preserved c =
    let i = c.loop-token.token-index in
    let ts = c.loop-token.tokens in
    let us = map shown c.args.tokens.now in
    let d = c.token-item.result in
    let e = c.consume_comment.ensures in
    let v = c.loop-token.invariant in
    let same : length ts ≡ length us =
    c.loop-token.auto.tokens ∙ sym (length-map c.args.tokens.now shown) in
    let inside : i < length ts = omega (arith, c.loop-token-test.true, c.loop-token.auto.tokens) in
    record {
      room = simp length-set (omega (arith, c.push_reserved.ensures.capacity, v.room));
      few = omega (arith, c.push_reserved.ensures.len, v.few);
      left = left_step us ts i d c.consume_comment.new.self inside same v.left (shows_emptied
          c.consume_comment.new.self (get_or ts i d) e.emptied.0 e.emptied.1 e.rest.0 e.rest.1);
      got = got_step us i (shown d) c.loop-token.comments.items _ c.consume_comment.result
          (omega (arith, inside, same)) (same_parts c.consume_comment.result (get_or ts i d).comment
          e.lines e.trailing ∙ ap (λ t. t.comment) (element_is us ts i d inside same v.left))
          c.push_reserved.ensures.items v.got;
    }
