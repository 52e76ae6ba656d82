use Rattle.std.proofs.Common.{◌≡◌, ◌+◌, ◌^◌, ◌<◌, ◌≤◌, length}
use Rattle.cedar_layout.specs.Nodes.{nodes}
use Rattle.cedar_layout.specs.Value.{doc_of}
use Rattle.cedar_print.specs.Inside.Measured.{facts, facts_of}
use Rattle.cedar_print.specs.Inside.Walked.{marks_in, marks_behind, nodes_pending, before_all}
use Rattle.cedar_print.proofs.measure.Known.measure_document.Given as goal

-- what will be known before the marks that are left is what is known before all of them
abbrev pub invariant-loop-walk : goal.invariant-loop-walk
invariant-loop-walk g l = record {
  facts : before_all (marks_behind l.walk.pending.items) (facts_of l.self)
      ≡ facts (marks_in (doc_of l.doc));
  columns : l.self.columns + 2 ^ 64 < 2 ^ 128;
  steps : l.steps + nodes_pending l.walk.pending.items ≡ l.fn.steps + nodes l.doc;
  least : l.fn.steps ≤ l.steps;
}

abbrev pub decreases-loop-walk : goal.decreases-loop-walk
decreases-loop-walk g l = length (marks_behind l.walk.pending.items)
