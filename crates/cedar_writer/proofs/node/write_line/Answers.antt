use Rattle.std.proofs.Common.{rules, vec_capacity}
use Rattle.cedar_print.specs.Marks.{marks_of}
use Rattle.cedar_writer.proofs.Grammar.{first_try, next_try}
use Rattle.cedar_writer.proofs.node.write_line.Goals as goal
use Rattle.cedar_writer.proofs.node.write_line.Goals.{in-OutOfRoom, in_default}

pub loop-init : goal.loop-init
loop-init c = first_try c.args.indent.columns c.args.depth c.args.line c.args.is_bare c.args.tokens.now
    (vec_capacity c.args.marks.now) c.capacity-room.result (marks_of c.attempt.new.marks.items) c.in_ok-outcome.outcome
    c.capacity-room.ensures c.in_ok-outcome.ensures.ended

pub loop-preserved : goal.loop-preserved
loop-preserved c = next_try c.args.indent.columns c.args.depth c.args.line c.args.is_bare c.args.tokens.now
    (vec_capacity c.args.marks.now) c.max-room.result (marks_of c.loop.marks.items)
    (marks_of c.attempt-in-loop.new.marks.items) c.loop.outcome c.in_ok-outcome-2.outcome c.loop.invariant
    (elim c.match-matches.branch [ in-OutOfRoom w ↦ w.in-OutOfRoom.is | in_default w ↦ search rules ])
    c.in_ok-outcome-2.ensures.ended
