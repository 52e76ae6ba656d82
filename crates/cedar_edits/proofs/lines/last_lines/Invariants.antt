use Rattle.cedar_edits.proofs.CommonLines.{EndAlike}
use Rattle.cedar_edits.proofs.lines.last_lines.Given as goal

abbrev pub invariant-loop-n : goal.invariant-loop-n
invariant-loop-n l = EndAlike l.old l.new l.lines l.n
