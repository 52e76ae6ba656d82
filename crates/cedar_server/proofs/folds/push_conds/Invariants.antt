use Rattle.std.proofs.Common.{◌≡◌, ◌++◌, take, map}
use Rattle.cedar_server.specs.Folds.{cond_fold, several}
use Rattle.cedar_server.proofs.folds.push_conds.Given as goal

abbrev pub invariant-loop-cond : goal.invariant-loop-cond
invariant-loop-cond l =
    l.folds.items ≡ l.fn.folds.items ++ several l.section l.from (map cond_fold (take l.cond-index l.conds))
