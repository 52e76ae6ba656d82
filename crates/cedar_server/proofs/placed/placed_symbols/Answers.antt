use Rattle.std.proofs.Common.{arith, get_or, subst}
use Rattle.cedar_server.specs.Placed.{PlacesSymbol}
use Rattle.cedar_server.proofs.Placing.{one_more, all_of}
use Rattle.cedar_server.proofs.placed.placed_symbols.Goals as goal

pub loop-symbol-preserved : goal.loop-symbol-preserved
loop-symbol-preserved c =
    let text = c.args.text.now in
    let items = c.deref-symbol-items.result.now in
    let k = c.loop-symbol.symbol-index in
    let shown = c.in_ok-next.shown in
    let placed : PlacesSymbol c.args.encoding text (get_or items k c.symbol-item.result) shown =
    subst (λ z. PlacesSymbol c.args.encoding text z shown) c.symbol-item.is c.in_ok-next.ensures.symbol in
    record {
      placed = one_more (PlacesSymbol c.args.encoding text) items c.loop-symbol.placed.items _ k c.symbol-item.result shown
          c.loop-symbol-test.true c.loop-symbol.invariant.placed placed c.in_ok-push.ensures.items;
      line = c.in_ok-next.ensures.line;
    }

pub returns : goal.returns
returns c = (
  c.in_ok-symbols.symbols.items,
  c.in_ok-symbols.ensures,
  all_of (PlacesSymbol c.args.encoding c.args.text.now) c.in_ok-symbols.symbols.items c.deref-symbol-items.result.now c.loop-symbol.placed.items
      c.loop-symbol.symbol-index (omega (arith, c.loop-symbol-test.false)) c.deref-symbol-items.ensures.value c.loop-symbol.invariant.placed,
)
