use Rattle.std.proofs.Common.{drop}
use Rattle.cedar_layout.specs.Lookups.{AreInOrder}
use Rattle.cedar_layout.proofs.Halving.{OrderedFrom}
use Rattle.cedar_layout.proofs.utils.lookups.in_order.Given as goal

-- the tokens are in order if and only if the rest is from here on
abbrev pub invariant-loop-token : goal.invariant-loop-token
invariant-loop-token l = record {
  enough : OrderedFrom l.from (drop l.token-index l.tokens) → AreInOrder l.tokens;
  needed : AreInOrder l.tokens → OrderedFrom l.from (drop l.token-index l.tokens);
}
