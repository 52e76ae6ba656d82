use Rattle.cedar_faults.proofs.Lines.{line_before, only_line}
use Rattle.cedar_faults.proofs.recovery.first_line.Goals as goal

pub returns-in-Some : goal.returns-in-Some
returns-in-Some c = line_before c.args.text.now (c.in-Some.line, c.in-Some.field-0-1) (rw c.in-Some.is at c.split_once.ensures.cases)

pub returns-in-None : goal.returns-in-None
returns-in-None c = only_line c.args.text.now (rw c.in-None.is at c.split_once.ensures.cases)
