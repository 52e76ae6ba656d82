use Rattle.std.proofs.Common.{arith, refl}
use Rattle.cedar_server.specs.Placed.{IsPlacedSelection}
use Rattle.cedar_server.proofs.Placing.{one_more, all_of}
use Rattle.cedar_server.proofs.placed.placed_selections.Goals as goal

pub loop-position-preserved : goal.loop-position-preserved
loop-position-preserved c =
    one_more (IsPlacedSelection c.args.encoding c.args.text.now) c.args.positions.now c.loop-position.placed.items _
    c.loop-position.position-index _ c.in_ok-selection.selection c.loop-position-test.true c.loop-position.invariant
    c.in_ok-selection.ensures c.in_ok-push.ensures.items

pub returns : goal.returns
returns c =
    all_of (IsPlacedSelection c.args.encoding c.args.text.now) c.args.positions.now c.args.positions.now c.loop-position.placed.items
    c.loop-position.position-index (omega (arith, c.loop-position-test.false)) refl c.loop-position.invariant
