use Rattle.std.proofs.Common.{◌≡◌, map, take}
use Rattle.cedar_files.specs.Excludes.{words_unmet}
use Rattle.cedar_files.proofs.excludes.Excludes.unmet.Given as goal

abbrev pub invariant-loop-rule : goal.invariant-loop-rule
invariant-loop-rule l = map (λ x. x.now) l.words.items ≡ words_unmet (take l.rule-index l.rule-items)
