use Rattle.cedar_edits.proofs.CommonLines.{BeginAlike}
use Rattle.cedar_edits.proofs.lines.first_lines.Given as goal

abbrev pub invariant-loop-i : goal.invariant-loop-i
invariant-loop-i l = BeginAlike l.old l.new l.lines l.i
