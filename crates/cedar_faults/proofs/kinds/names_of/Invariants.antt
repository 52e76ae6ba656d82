use Rattle.cedar_faults.proofs.NameLists.{SoFar}
use Rattle.cedar_faults.proofs.kinds.names_of.Given as goal

abbrev pub invariant-loop-kind : goal.invariant-loop-kind
invariant-loop-kind l = SoFar l.kinds.items.items l.names.items l.kind-index
