use Rattle.std.proofs.Common.{sym, subst}
use lib.Utf8.{encode}
use Rattle.cedar_print.specs.Marks.{marks_of}
use Rattle.cedar_print.specs.WrittenMarks.{AreMarks}
use Rattle.cedar_writer.proofs.Printed.{laid_out}
use Rattle.cedar_writer.proofs.printer.PolicyPrinter.lay_out.Goals as goal

pub returns-clause-layout : goal.returns-clause-layout
unfolding encode
returns-clause-layout c = λ d m. laid_out _ d _ _ _ c.clear.ensures.bytes
    (c.in_ok-lay_out_clean.ensures.ok d
    (subst (λ z. AreMarks (marks_of z) d) (sym c.deref.ensures.value) m)) c.in_ok-push.ensures.bytes
