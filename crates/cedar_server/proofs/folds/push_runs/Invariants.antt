use Rattle.std.proofs.Common.{drop}
use Rattle.cedar_server.proofs.Folding.{RunsSoFar}
use Rattle.cedar_server.proofs.folds.push_runs.Given as goal

abbrev pub invariant-loop-line : goal.invariant-loop-line
invariant-loop-line l = RunsSoFar l.text l.lines l.fn.folds.items l.folds.items l.run (drop l.line-index l.lines)
