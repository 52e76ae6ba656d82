use Rattle.std.proofs.Common.{◌≡◌, ◌+◌, ◌-◌, ◌*◌, ◌^◌, ◌≤◌, drop, length}
use Rattle.cedar_print.specs.Marks.{marks_of}
use Rattle.cedar_print.specs.Rooms.{room_to_measure}
use Rattle.cedar_print.specs.Inside.Spare.{spare_to_measure}
use Rattle.cedar_print.specs.Inside.Measured.{facts, facts_of}
use Rattle.cedar_print.proofs.measure.Known.measure.Given as goal

-- what is known is that of the marks from here on, each of at most 2 ^ 64 columns
abbrev pub invariant-loop-i : goal.invariant-loop-i
invariant-loop-i g l = record {
  facts : facts_of l.self ≡ facts (marks_of (drop l.i l.marks));
  columns : l.self.columns + 2 ^ 64 * l.i ≤ 2 ^ 64 * length l.marks;
  spare : room_to_measure l.fn.self ≤ spare_to_measure l.self + (length l.marks - l.i);
  room : room_to_measure l.fn.self ≤ room_to_measure l.self;
  steps : l.steps + l.i ≡ l.fn.steps + length l.marks;
  least : l.fn.steps ≤ l.steps;
}
