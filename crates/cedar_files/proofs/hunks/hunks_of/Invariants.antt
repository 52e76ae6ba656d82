use Rattle.cedar_files.proofs.HunkLemmas.{AreSoFar}
use Rattle.cedar_files.proofs.hunks.hunks_of.Given as goal

abbrev pub invariant-loop-n : goal.invariant-loop-n
invariant-loop-n l = AreSoFar l.changes l.n l.hunks.items
