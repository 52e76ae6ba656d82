use Rattle.std.proofs.Common.{◌≡◌, ◌+◌, ◌++◌, take}
use Rattle.cedar_layout.specs.Nodes.{nodes_of_all}
use Rattle.cedar_layout.specs.Value.{docs_of}
use Rattle.cedar_print.specs.Inside.Walked.{marks_in, marks_behind, nodes_pending}
use Rattle.cedar_print.proofs.walk.Backward.push_all.Given as goal

abbrev pub invariant-loop-doc : goal.invariant-loop-doc
invariant-loop-doc l = record {
  marks : marks_behind l.self.pending.items
      ≡ marks_behind l.fn.self.pending.items ++ marks_in (docs_of (take l.doc-index l.docs));
  nodes : nodes_pending l.self.pending.items
      ≡ nodes_pending l.fn.self.pending.items + nodes_of_all (take l.doc-index l.docs);
}
