use Rattle.std.proofs.Common.{◌≡◌, ◌+◌, ◌≤◌, ◌++◌, false, drop, length, take, string_bytes, string_capacity}
use Rattle.std.specs.List.{flat_map}
use Rattle.cedar_print.specs.Marks.{marks_of}
use Rattle.cedar_print.specs.Clean.{units_of, without_blank_lines}
use Rattle.cedar_print.specs.Rooms.{room_of}
use Rattle.cedar_print.specs.Inside.Spare.{spare_to_enter}
use Rattle.cedar_print.specs.Inside.Printed.{printed, state_of}
use Rattle.cedar_print.specs.Inside.Written.{clean_after, spaces_held}
use Rattle.cedar_print.proofs.printer.Printer.print_lines.Given as goal

-- what was written, and what is written of the marks to come after what is held back, is what is
-- written of all marks
abbrev pub invariant-loop-mark : goal.invariant-loop-mark
invariant-loop-mark g l = record {
  bytes : string_bytes l.out ++ clean_after l.held (flat_map units_of (printed l.width
      (marks_of (drop l.mark-index l.marks)) (state_of l.self.place))) ≡ string_bytes l.fn.out
      ++ without_blank_lines false (flat_map units_of (printed l.width (marks_of l.marks)
      (state_of l.initial.self.place)));
  held : spaces_held l.held ≤ l.mark-index;
  spare : room_of l.fn.self ≤ spare_to_enter l.self.place + l.mark-index;
  room : room_of l.fn.self ≤ room_of l.self;
  capacity : string_capacity l.fn.out ≤ string_capacity l.out;
  steps : l.steps ≡ l.fn.steps + length l.marks + l.mark-index;
  kept : take (length (string_bytes l.fn.out)) (string_bytes l.out) ≡ string_bytes l.fn.out;
}
