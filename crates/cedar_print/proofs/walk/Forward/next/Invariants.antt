use Rattle.std.proofs.Common.{◌≡◌, ◌+◌, ◌≤◌}
use Rattle.cedar_print.specs.Inside.Walked.{marks_ahead, nodes_pending}
use Rattle.cedar_print.proofs.walk.Forward.next.Given as goal

-- the marks are those at entry, and likewise the steps
abbrev pub invariant-loop-next : goal.invariant-loop-next
invariant-loop-next g l = record {
  marks : marks_ahead l.self.pending.items ≡ marks_ahead l.fn.self.pending.items;
  steps : l.steps + nodes_pending l.self.pending.items
      ≡ l.fn.steps + nodes_pending l.fn.self.pending.items;
  least : l.fn.steps ≤ l.steps;
}

abbrev pub decreases-loop-next : goal.decreases-loop-next
decreases-loop-next g l = nodes_pending l.self.pending.items
