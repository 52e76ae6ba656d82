use Rattle.std.proofs.Common.{◌≡◌, ℕ, List, take}
use Rattle.std.specs.List.{filter}
use Rattle.cedar_faults.proofs.Afters.{kinds_of}
use Rattle.cedar_faults.specs.Inside.Pendings.{IsAfter}
use Rattle.cedar_faults.proofs.Following.{follows}
use Rattle.cedar_faults.proofs.probe.what_follows.Given as goal

-- of the kinds so far, those that can follow
abbrev pub invariant-loop-kind : goal.invariant-loop-kind
invariant-loop-kind l = (units : List (List ℕ)) → IsAfter (kinds_of units) l.pending
    → l.items.items ≡ filter (follows units) (take l.kind-index l.kind-items)
