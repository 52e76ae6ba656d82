use Rattle.std.proofs.Common.{take}
use Rattle.cedar_edits.specs.Positions.{BeginsLine}
use Rattle.cedar_server.specs.Placed.{InTurn, PlacesSymbol}
use Rattle.cedar_server.proofs.placed.placed_symbols.Given as goal

abbrev pub invariant-loop-symbol : goal.invariant-loop-symbol
invariant-loop-symbol l = record {
  placed : InTurn (PlacesSymbol l.encoding l.text) (take l.symbol-index l.symbol-items) l.placed.items;
  line : BeginsLine l.text l.line.number l.line.start;
}
