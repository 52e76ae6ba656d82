use Rattle.std.proofs.Common.{◌≡◌, ◌++◌, take}
use Rattle.std.specs.List.{flat_map}
use Rattle.cedar_server.specs.Folds.{policy_folds, several}
use Rattle.cedar_server.proofs.folds.push_section.Given as goal

abbrev pub invariant-loop-policy : goal.invariant-loop-policy
invariant-loop-policy l =
    l.folds.items ≡ l.fn.folds.items ++ several l.section l.from (flat_map policy_folds (take l.policy-index l.policy-items))
