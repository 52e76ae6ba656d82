use Rattle.std.proofs.Common.{arith, sym, ◌∙◌}
use Rattle.cedar_server.proofs.Selecting.{found_all, kept_more, left_out_more}
use Rattle.cedar_server.proofs.selections.blocks_around.Goals as goal

pub loop-block-preserved-then-not-is_next : goal.loop-block-preserved-then-not-is_next
loop-block-preserved-then-not-is_next c =
    left_out_more c.args.at c.args.blocks.now c.loop-block.found.items c.loop-block.last c.loop-block.block-index _
    c.loop-block-test.true (sym c.is_next.ensures ∙ c.if-not-is_next.true) c.loop-block.invariant

pub loop-block-preserved : goal.loop-block-preserved
loop-block-preserved c =
    kept_more c.args.at c.args.blocks.now c.loop-block.found.items _ c.loop-block.last c.loop-block.block-index _
    c.loop-block-test.true (sym c.is_next.ensures ∙ c.if-not-is_next.false) c.in_ok-push.ensures.items
    c.loop-block.invariant

pub returns : goal.returns
returns c = found_all c.args.at c.args.blocks.now c.loop-block.found.items c.loop-block.last c.loop-block.block-index
    (omega (arith, c.loop-block-test.false)) c.loop-block.invariant
