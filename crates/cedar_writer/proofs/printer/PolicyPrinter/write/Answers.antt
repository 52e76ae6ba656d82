use Rattle.std.proofs.Common.{arith, subst, sym}
use Rattle.cedar_grammar.specs.Laws.{AreTokens}
use Rattle.cedar_grammar.specs.Texts.{greatest_depth}
use Rattle.cedar_print.specs.Marks.{marks_of}
use Rattle.cedar_written.specs.Written.{Policy}
use Rattle.cedar_writer.specs.Outcomes.{IsOfTheGrammar}
use Rattle.cedar_writer.proofs.Printed.{all_read}
use Rattle.cedar_writer.proofs.printer.PolicyPrinter.write.Goals as goal

pub returns-then-left-eq0-clause-marks : goal.returns-then-left-eq0-clause-marks
returns-then-left-eq0-clause-marks c =
    let same = c.deref.ensures.value in
    all_read c.args.indent.columns c.args.self.now.tokens.items _ c.in-Ok.left
    (omega (arith, c.if-left-eq0.true))
    (subst (λ z. IsOfTheGrammar c.args.indent.columns greatest_depth z
    (marks_of c.write_policy.new.marks.items) c.in-Ok.left) same
    (c.in-Ok.ensures.grammar (subst (AreTokens (λ t. t.text)) (sym same) c.requires)))

pub returns-else-left-eq0-clause-marks : goal.returns-else-left-eq0-clause-marks
returns-else-left-eq0-clause-marks c = λ d p.
    (let h = c.in-Ok.ensures.policies d
    (subst (λ z. Policy c.args.indent.columns greatest_depth z d) (sym c.deref.ensures.value) p) in
    absurd (omega (arith, h, c.if-left-eq0.false)))

pub returns-in-Err-Grammar-clause-marks : goal.returns-in-Err-Grammar-clause-marks
returns-in-Err-Grammar-clause-marks c = λ d p.
    (let h = c.in-Err-Grammar.ensures.policies d
    (subst (λ z. Policy c.args.indent.columns greatest_depth z d) (sym c.deref.ensures.value) p) in
    let e = c.in-Err-Grammar.field-0-is in absurd cc)

pub returns-in-Err-TooDeep-clause-marks : goal.returns-in-Err-TooDeep-clause-marks
returns-in-Err-TooDeep-clause-marks c = λ d p.
    (let h = c.in-Err-TooDeep.ensures.policies d
    (subst (λ z. Policy c.args.indent.columns greatest_depth z d) (sym c.deref.ensures.value) p) in
    let e = c.in-Err-TooDeep.field-0-is in absurd cc)
