use Rattle.std.proofs.Common.{sym, subst, Ok, Err, vec_capacity}
use Rattle.cedar_print.specs.Marks.{marks_of}
use Rattle.cedar_writer.specs.Outcomes.{IsRefused}
use Rattle.cedar_writer.proofs.Grammar.{read_as, refused_as, reads_all, of_the_grammar}
use Rattle.cedar_writer.proofs.policy.write_policy.Goals as goal

pub returns-in-Written-clause-outcome : goal.returns-in-Written-clause-outcome
returns-in-Written-clause-outcome c = read_as c.args.indent.columns c.args.depth c.args.tokens.now
    (marks_of c.write_line.new.marks.items) c.in-Ok.outcome c.in-Written.left c.in-Ok.ensures.ended c.in-Written.is

pub returns-in-Written-clause-policies : goal.returns-in-Written-clause-policies
returns-in-Written-clause-policies c = λ d p. reads_all c.args.indent.columns c.args.depth
    c.args.tokens.now d p (vec_capacity c.args.marks.now) (marks_of c.write_line.new.marks.items) (Ok c.in-Written.left)
    (returns-in-Written-clause-outcome c)

pub returns-in-Written-clause-grammar : goal.returns-in-Written-clause-grammar
returns-in-Written-clause-grammar c = λ k. of_the_grammar c.args.indent.columns c.args.depth
    c.args.tokens.now (marks_of c.write_line.new.marks.items) c.in-Written.left k
    (returns-in-Written-clause-outcome c)

pub returns-in-Refused-clause-outcome : goal.returns-in-Refused-clause-outcome
returns-in-Refused-clause-outcome c =
    subst (IsRefused c.args.indent.columns c.args.depth c.args.tokens.now (vec_capacity c.args.marks.now)) (sym c.refusal_of.ensures)
    (refused_as c.args.indent.columns c.args.depth c.args.tokens.now (vec_capacity c.args.marks.now)
    (marks_of c.write_line.new.marks.items) c.in-Ok.outcome c.in-Refused.too_deep c.in-Refused.left c.in-Ok.ensures.ended
    c.in-Refused.is)

pub returns-in-Refused-clause-policies : goal.returns-in-Refused-clause-policies
returns-in-Refused-clause-policies c = λ d p. reads_all c.args.indent.columns c.args.depth
    c.args.tokens.now d p (vec_capacity c.args.marks.now) (marks_of c.write_line.new.marks.items) (Err c.refusal_of.result)
    (returns-in-Refused-clause-outcome c)
