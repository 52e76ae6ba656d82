use Rattle.std.proofs.Common.{◌≡◌, ◌++◌, drop}
use Rattle.cedar_settings.specs.Decisions.{applying, applying_from, problems_from}
use Rattle.cedar_settings.proofs.decisions.find.Given as goal

abbrev pub invariant-loop-n : goal.invariant-loop-n
invariant-loop-n l = record {
  applied : l.found.applied.items ++ applying_from l.n (drop l.n l.files) l.path ≡ applying l.files l.path;
  problems : l.found.problems.items ++ problems_from l.n (drop l.n l.files) l.path ≡ problems_from 0 l.files l.path;
}
