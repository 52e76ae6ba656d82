use Rattle.std.proofs.Common.{take}
use Rattle.cedar_server.specs.Placed.{InTurn, IsRangeOf}
use Rattle.cedar_server.proofs.placed.placed_selection.Given as goal

abbrev pub invariant-loop-span : goal.invariant-loop-span
invariant-loop-span l = InTurn (IsRangeOf l.encoding l.text) (take l.span-index l.span-items) l.ranges.items
