use Rattle.std.proofs.Common.{◌≡◌, take}
use Rattle.std.specs.Prelude.{reverse}
use Rattle.cedar_server.specs.Selections.{closed_by}
use Rattle.cedar_server.proofs.selections.close.Given as goal

-- no bracket from here on is closed
abbrev pub invariant-loop-i : goal.invariant-loop-i
invariant-loop-i l = record {
  opened : l.opened.items ≡ l.fn.opened.items;
  blocks : l.blocks.items ≡ l.fn.blocks.items;
  closed : closed_by l.kind (reverse (take l.i l.fn.opened.items)) ≡ closed_by l.kind (reverse l.fn.opened.items);
}
