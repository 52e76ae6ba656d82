use Rattle.std.proofs.Common.{◌≡◌, map, take}
use Rattle.std.specs.List.{flat_map}
use Rattle.cedar_examples.proofs.Comments.{of_wrapped}
use Rattle.cedar_examples.proofs.linter.comments_of.Given as goal

abbrev pub invariant-loop-token : goal.invariant-loop-token
invariant-loop-token l =
    map (λ s. s.now) l.found.items ≡ flat_map of_wrapped (take l.token-index l.token-items)
