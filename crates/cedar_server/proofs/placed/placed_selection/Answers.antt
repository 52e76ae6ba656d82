use Rattle.std.proofs.Common.{arith}
use Rattle.cedar_server.specs.Placed.{IsRangeOf}
use Rattle.cedar_server.proofs.Placing.{one_more, all_of}
use Rattle.cedar_server.proofs.placed.placed_selection.Goals as goal

pub loop-span-preserved : goal.loop-span-preserved
loop-span-preserved c =
    one_more (IsRangeOf c.args.encoding c.args.text.now) c.deref-span-items.result.now c.loop-span.ranges.items _
    c.loop-span.span-index _ c.place.result.1 c.loop-span-test.true c.loop-span.invariant c.place.ensures.range
    c.in_ok-push.ensures.items

pub returns : goal.returns
returns c = record {
  at = c.offset_at-at.result;
  offset = c.offset_at-at.ensures.offset;
  spans = c.in_ok-spans.spans.items;
  are = (c.args.blocks.now, c.requires, c.in_ok-spans.ensures);
  ranges = all_of (IsRangeOf c.args.encoding c.args.text.now) c.in_ok-spans.spans.items c.deref-span-items.result.now
      c.loop-span.ranges.items c.loop-span.span-index (omega (arith, c.loop-span-test.false)) c.deref-span-items.ensures.value
      c.loop-span.invariant;
}
