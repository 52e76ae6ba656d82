use Rattle.std.proofs.Common.{take}
use Rattle.cedar_edits.specs.Positions.{BeginsLine}
use Rattle.cedar_server.specs.Placed.{InTurn, PlacesToken}
use Rattle.cedar_server.proofs.placed.placed_tokens.Given as goal

abbrev pub invariant-loop-token : goal.invariant-loop-token
invariant-loop-token l = record {
  placed : InTurn (PlacesToken l.encoding l.text) (take l.token-index l.token-items) l.placed.items;
  line : BeginsLine l.text l.line.number l.line.start;
}
