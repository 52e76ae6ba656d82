use Rattle.std.proofs.Common.{take}
use Rattle.cedar_server.specs.Fixes.{AreFixesIn}
use Rattle.cedar_server.proofs.fixes.fixes_in.Given as goal

abbrev pub invariant-loop-fault : goal.invariant-loop-fault
invariant-loop-fault l = AreFixesIn l.encoding l.text l.touched l.fn.faults (take l.fault-index l.fn.faults) l.fixes.items
