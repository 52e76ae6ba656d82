use Rattle.std.proofs.Common.{◌≡◌, ◌++◌, map}
use Rattle.cedar_tokens.specs.Listing.{comments}
use Rattle.cedar_tokens.specs.Tokens.{comments_left, leading_lines, trailing_text}
use Rattle.cedar_tokens.proofs.commas.lines_for.Given as goal

abbrev pub invariant-loop-line : goal.invariant-loop-line
invariant-loop-line l = map (λ x. x.now) l.lines.items ++ comments_left l.line-iterator
    ≡ leading_lines l.comma.comment ++ comments (trailing_text l.comma.comment)
