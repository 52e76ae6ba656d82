use Rattle.std.proofs.Common.{drop}
use Rattle.cedar_server.proofs.Selecting.{FoundSoFar}
use Rattle.cedar_server.proofs.selections.blocks_around.Given as goal

abbrev pub invariant-loop-block : goal.invariant-loop-block
invariant-loop-block l = FoundSoFar l.at l.fn.blocks l.found.items l.last (drop l.block-index l.fn.blocks)
