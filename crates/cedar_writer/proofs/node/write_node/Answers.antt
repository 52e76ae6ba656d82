use Rattle.std.proofs.Common.{subst}
use Rattle.cedar_print.specs.Marks.{marks_of}
use Rattle.cedar_writer.specs.Bare.{is_bare}
use Rattle.cedar_writer.specs.Outcomes.{EndsSo}
use Rattle.cedar_writer.proofs.NodeLaws.{node_ends, node_wrote}
use Rattle.cedar_writer.proofs.node.write_node.Goals as goal

ended : (c : goal.After-is_whole) → EndsSo c.args.indent.columns c.args.depth c.args.line (is_bare c.args.tokens.now) c.args.tokens.now
    (marks_of c.write_line.new.marks.items) c.in_ok-outcome.outcome
ended c = subst (λ b. EndsSo c.args.indent.columns c.args.depth c.args.line b c.args.tokens.now
    (marks_of c.write_line.new.marks.items) c.in_ok-outcome.outcome) c.is_bare.ensures c.in_ok-outcome.ensures.ended

pub returns-clause-row : goal.returns-clause-row
returns-clause-row c = λ d x.
    (let r = node_ends c.args.indent.columns c.args.depth c.args.line c.args.tokens.now d (marks_of c.write_line.new.marks.items)
    c.in_ok-outcome.outcome x (ended c) c.in_ok-outcome.ensures.room in (c.is_whole.ensures.1 r.0, r.1))

pub returns-clause-read : goal.returns-clause-read
returns-clause-read c = λ k h. node_wrote c.args.indent.columns c.args.depth c.args.line c.args.tokens.now
    (marks_of c.write_line.new.marks.items) k
    (subst (EndsSo c.args.indent.columns c.args.depth c.args.line (is_bare c.args.tokens.now) c.args.tokens.now
    (marks_of c.write_line.new.marks.items)) (c.is_whole.ensures.0 h) (ended c))
