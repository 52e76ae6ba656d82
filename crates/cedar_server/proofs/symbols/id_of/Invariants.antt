use Rattle.std.proofs.Common.{take}
use Rattle.std.specs.Prelude.{All}
use Rattle.cedar_server.specs.Symbols.{IsNoId}
use Rattle.cedar_server.proofs.symbols.id_of.Given as goal

abbrev pub invariant-loop-annotation : goal.invariant-loop-annotation
invariant-loop-annotation l = All IsNoId (take l.annotation-index l.annotations)
