use Rattle.std.proofs.Common.{◌≡◌, drop}
use Rattle.cedar_layout.specs.Layout.{◌·◌}
use Rattle.cedar_layout.specs.Value.{doc_of, docs_of}
use Rattle.cedar_layout.proofs.layout.+copy.Given as goal

abbrev pub invariant-loop-d : goal.invariant-loop-d
invariant-loop-d l = docs_of l.all.items · docs_of (drop l.d-index l.d-items) ≡ doc_of l.doc
