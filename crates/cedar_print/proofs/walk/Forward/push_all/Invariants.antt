use Rattle.std.proofs.Common.{◌≡◌, ◌+◌, ◌++◌, take}
use Rattle.cedar_layout.specs.Nodes.{nodes_of_all}
use Rattle.cedar_layout.specs.Value.{docs_of}
use Rattle.cedar_print.specs.Inside.Walked.{marks_in, marks_ahead, nodes_pending}
use Rattle.cedar_print.proofs.walk.Forward.push_all.Given as goal

abbrev pub invariant-loop-i : goal.invariant-loop-i
invariant-loop-i l = record {
  marks : marks_in (docs_of (take l.i l.docs)) ++ marks_ahead l.self.pending.items
      ≡ marks_in (docs_of l.docs) ++ marks_ahead l.fn.self.pending.items;
  nodes : nodes_pending l.self.pending.items + nodes_of_all (take l.i l.docs)
      ≡ nodes_pending l.fn.self.pending.items + nodes_of_all l.docs;
}
