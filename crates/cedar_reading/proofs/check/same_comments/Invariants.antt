use Rattle.std.proofs.Common.{◌≡◌}
use Rattle.std.specs.Prelude.{◌↔◌}
use Rattle.cedar_tokens.specs.Listing.{comments}
use Rattle.cedar_tokens.specs.Tokens.{comments_left}
use Rattle.cedar_reading.proofs.check.same_comments.Given as goal

-- the texts have the same comments if and only if those that are left are the same
abbrev pub invariant-loop-comment : goal.invariant-loop-comment
invariant-loop-comment l = (comments l.fn.a ≡ comments l.fn.b)
    ↔ (comments_left l.comment-iterator ≡ comments_left l.others)
