use Rattle.std.proofs.Common.{vec_capacity}
use Rattle.cedar_print.specs.Marks.{marks_of}
use Rattle.cedar_writer.proofs.Grammar.{IsTried}
use Rattle.cedar_writer.proofs.node.write_line.Given as goal

abbrev pub invariant-loop : goal.invariant-loop
invariant-loop l = IsTried l.indent.columns l.depth l.line l.is_bare l.tokens (vec_capacity l.fn.marks)
    (marks_of l.marks.items) l.outcome
