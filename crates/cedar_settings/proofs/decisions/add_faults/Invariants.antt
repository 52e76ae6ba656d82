use Rattle.std.proofs.Common.{◌≡◌, ◌++◌, map, take}
use Rattle.cedar_settings.specs.Decisions.{fault_at}
use Rattle.cedar_settings.proofs.decisions.add_faults.Given as goal

abbrev pub invariant-loop-fault : goal.invariant-loop-fault
invariant-loop-fault l = l.problems.items
    ≡ l.initial.problems.items ++ map (fault_at l.file) (take l.fault-index l.faults)
