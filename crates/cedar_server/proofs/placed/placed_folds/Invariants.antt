use Rattle.std.proofs.Common.{take}
use Rattle.cedar_edits.specs.Positions.{BeginsLine}
use Rattle.cedar_server.specs.Placed.{InTurn, PlacesFold}
use Rattle.cedar_server.proofs.placed.placed_folds.Given as goal

abbrev pub invariant-loop-fold : goal.invariant-loop-fold
invariant-loop-fold l = record {
  placed : InTurn (PlacesFold l.encoding l.text) (take l.fold-index l.fold-items) l.placed.items;
  line : BeginsLine l.text l.line.number l.line.start;
}
