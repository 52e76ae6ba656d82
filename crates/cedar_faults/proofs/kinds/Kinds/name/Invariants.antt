use Rattle.std.proofs.Common.{IsTrue, All, take}
use Rattle.cedar_faults.specs.Naming.{names, AreIn}
use Rattle.cedar_faults.proofs.kinds.Kinds.name.Given as goal

-- none of the groups so far names the kind and only kinds of the set
abbrev pub invariant-loop-group : goal.invariant-loop-group
invariant-loop-group l = All (λ group. IsTrue (names group l.kind) → ¬ (AreIn l.self.items.items group))
    (take l.group-index l.group-items)
