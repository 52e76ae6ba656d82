use Rattle.std.proofs.Common.{take}
use Rattle.cedar_server.specs.Placed.{InTurn, IsPlacedSelection}
use Rattle.cedar_server.proofs.placed.placed_selections.Given as goal

abbrev pub invariant-loop-position : goal.invariant-loop-position
invariant-loop-position l = InTurn (IsPlacedSelection l.encoding l.text) (take l.position-index l.fn.positions) l.placed.items
