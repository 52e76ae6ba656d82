use Rattle.std.proofs.Common.{arith}
use Rattle.cedar_server.specs.Placed.{PlacesFold}
use Rattle.cedar_server.proofs.Placing.{one_more, all_of}
use Rattle.cedar_server.proofs.placed.placed_folds.Goals as goal

pub loop-fold-preserved : goal.loop-fold-preserved
loop-fold-preserved c =
    let P = PlacesFold c.args.encoding c.args.text.now in
    record {
      placed = one_more P c.deref-fold-items.result.now c.loop-fold.placed.items _ c.loop-fold.fold-index _ c.place_fold.result.1
          c.loop-fold-test.true c.loop-fold.invariant.placed c.place_fold.ensures.fold c.in_ok-push.ensures.items;
      line = c.place_fold.ensures.line;
    }

pub returns : goal.returns
returns c = (
  c.in_ok-folds.folds.items,
  c.in_ok-folds.ensures,
  all_of (PlacesFold c.args.encoding c.args.text.now) c.in_ok-folds.folds.items c.deref-fold-items.result.now c.loop-fold.placed.items
      c.loop-fold.fold-index (omega (arith, c.loop-fold-test.false)) c.deref-fold-items.ensures.value c.loop-fold.invariant.placed,
)
