use Rattle.cedar_print.specs.Marks.{marks_of}
use Rattle.cedar_writer.proofs.Grammar.{has_ended}
use Rattle.cedar_writer.proofs.node.attempt.Goals as goal

pub returns-clause-ended : goal.returns-clause-ended
returns-clause-ended c = has_ended c.args.indent.columns c.args.depth c.args.line c.args.is_bare c.args.tokens.now
    c.args.room (marks_of c.finish-written.result.0.items) c.finish-written.result.1 c.in_ok-writer.ensures.begun c.node.ensures
    c.finish-written.ensures
