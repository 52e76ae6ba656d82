use Rattle.std.proofs.Common.{◌≡◌}
use Rattle.cedar_print.specs.WrittenMarks.{broken_lines, lead_of}
use Rattle.cedar_reading.specs.Lines.{lines_left}
use Rattle.cedar_writer.specs.Writing.{add_all, choose}
use Rattle.cedar_writer.proofs.writer.Writer.lead.Given as goal

-- the lines to come, with a break before the first of all
abbrev pub invariant-loop-line : goal.invariant-loop-line
invariant-loop-line l = add_all (choose l.is_first (lead_of (lines_left l.line-iterator)) (broken_lines (lines_left l.line-iterator))) l.self
    ≡ add_all (lead_of (lines_left l.fn.lines)) l.fn.self
