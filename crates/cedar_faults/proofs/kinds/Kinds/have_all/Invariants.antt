use Rattle.std.proofs.Common.{IsTrue, Contains, All, take}
use Rattle.cedar_faults.specs.Naming.{names}
use Rattle.cedar_faults.proofs.kinds.Kinds.have_all.Given as goal

-- of the kinds so far, those that are named are in the set
abbrev pub invariant-loop-kind : goal.invariant-loop-kind
invariant-loop-kind l = All (λ k. IsTrue (names l.name k) → Contains l.self.items.items k)
    (take l.kind-index l.kind-items)
