use Rattle.std.proofs.Common.{◌≡◌, ◌+◌, ◌*◌, ◌≤◌, ◌++◌, length, take, string_bytes}
use Rattle.std.specs.List.{concat, flat_map}
use Rattle.cedar_layout.specs.Nodes.{nodes}
use Rattle.cedar_layout.specs.Value.{doc_of}
use Rattle.cedar_print.specs.Clean.{units_of}
use Rattle.cedar_print.specs.Inside.Printed.{printed, state_of}
use Rattle.cedar_print.specs.Inside.Walked.{marks_in, marks_ahead, nodes_pending}
use Rattle.cedar_print.specs.Inside.Written.{units_at}
use Rattle.cedar_print.proofs.render.measure_and_print.Given as goal

-- what was written and what the marks to come write is what all marks write, and likewise the steps
abbrev pub invariant-loop-walk : goal.invariant-loop-walk
invariant-loop-walk g l = record {
  bytes : string_bytes l.out ++ concat (flat_map units_of (printed l.width
      (marks_ahead l.walk.pending.items) (state_of l.place)))
      ≡ string_bytes l.fn.out ++ concat (units_at l.width (marks_in (doc_of l.doc)));
  kept : take (length (string_bytes l.fn.out)) (string_bytes l.out) ≡ string_bytes l.fn.out;
  steps : l.steps + nodes_pending l.walk.pending.items ≡ l.fn.steps + 2 * nodes l.doc;
  least : l.fn.steps ≤ l.steps;
}

abbrev pub decreases-loop-walk : goal.decreases-loop-walk
decreases-loop-walk g l = length (marks_ahead l.walk.pending.items)
