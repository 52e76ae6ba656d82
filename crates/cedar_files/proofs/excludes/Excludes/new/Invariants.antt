use Rattle.std.proofs.Common.{◌≡◌, map, take}
use Rattle.cedar_files.specs.Excludes.{are_absolute, begins_with_slash, words_unmet}
use Rattle.cedar_files.proofs.excludes.Excludes.new.Given as goal

abbrev pub invariant-loop-word : goal.invariant-loop-word
invariant-loop-word l = (words_unmet l.rules.items ≡ map (λ x. x.now) (take l.word-index l.words))
    × (are_absolute l.rules.items ≡ map (λ x. begins_with_slash x.now) (take l.word-index l.words))
