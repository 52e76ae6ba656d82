use Rattle.std.proofs.Common.{arith}
use Rattle.cedar_server.specs.Placed.{PlacesToken}
use Rattle.cedar_server.proofs.Placing.{one_more, all_of}
use Rattle.cedar_server.proofs.placed.placed_tokens.Goals as goal

pub loop-token-preserved : goal.loop-token-preserved
loop-token-preserved c =
    let P = PlacesToken c.args.encoding c.args.text.now in
    record {
      placed = one_more P c.deref-token-items.result.now c.loop-token.placed.items _ c.loop-token.token-index _ c.place_token.result.1
          c.loop-token-test.true c.loop-token.invariant.placed c.place_token.ensures.token c.in_ok-push.ensures.items;
      line = c.place_token.ensures.line;
    }

pub returns : goal.returns
returns c = (
  c.in_ok-tokens.tokens.items,
  c.in_ok-tokens.ensures,
  all_of (PlacesToken c.args.encoding c.args.text.now) c.in_ok-tokens.tokens.items c.deref-token-items.result.now c.loop-token.placed.items
      c.loop-token.token-index (omega (arith, c.loop-token-test.false)) c.deref-token-items.ensures.value c.loop-token.invariant.placed,
)
