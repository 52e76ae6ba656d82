use Rattle.cedar_layout.specs.Inside.Releasing.{work}
use Rattle.cedar_layout.proofs.layout.release.release_all.Given as goal

abbrev pub decreases-loop-doc : goal.decreases-loop-doc
decreases-loop-doc l = work l.docs.items
