use Rattle.std.proofs.Common.{◌≡◌, ◌++◌, map}
use Rattle.cedar_tokens.specs.Tokens.{comments_left}
use Rattle.cedar_examples.proofs.linter.push_comments.Given as goal

abbrev pub invariant-loop-comment : goal.invariant-loop-comment
invariant-loop-comment l = map (λ c. c.now) l.found.items ++ comments_left l.comment-iterator
    ≡ map (λ c. c.now) l.fn.found.items ++ comments_left l.fn.comments
