use Rattle.std.proofs.Common.{◌≡◌, ◌∷◌, ℕ, List}
use Rattle.cedar_tokens.specs.declared.kind.Kind.{Kind}
use Rattle.cedar_faults.specs.Inside.Pendings.{parts_of}
use Rattle.cedar_faults.specs.Inside.Reaching.{reads_parts}
use Rattle.cedar_faults.proofs.Weights.{total}
use Rattle.cedar_faults.proofs.pending.Pending.read.Given as goal

-- the token and what follows it are read from here on as from the start
abbrev pub invariant-loop-ahead : goal.invariant-loop-ahead
invariant-loop-ahead l = (ts : List Kind)
    → reads_parts (parts_of l.fn.self) (l.kind ∷ ts) ≡ reads_parts (parts_of l.self) (l.kind ∷ ts)

abbrev pub decreases-loop-ahead : goal.decreases-loop-ahead
decreases-loop-ahead l = total (parts_of l.self)
