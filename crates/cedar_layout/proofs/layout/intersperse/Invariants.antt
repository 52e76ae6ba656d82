use Rattle.std.proofs.Common.{◌≡◌, ◌↔◌, [], map}
use Rattle.cedar_layout.specs.Value.{doc_of, docs_of, interspersed}
use Rattle.cedar_layout.proofs.layout.intersperse.Given as goal

abbrev pub invariant-loop-d : goal.invariant-loop-d
invariant-loop-d l = record {
  joined : docs_of l.all.items ≡ interspersed (doc_of l.sep) (map doc_of l.yielded);
  empty : (l.all.items ≡ []) ↔ (l.yielded ≡ []);
}
