use Rattle.std.proofs.Common.{◌≡◌, ◌++◌, ℕ, List}
use Rattle.cedar_tokens.specs.Tokens.{comments_left}
use Rattle.cedar_laws.specs.Output.{closing_text}
use Rattle.cedar_policy_formatter.proofs.fmt.put_closing.Given as goal

-- what was taken, and the comments that are left
abbrev pub invariant-loop-comment : goal.invariant-loop-comment
invariant-loop-comment g l = (x : List ℕ) × g.S.Sink.takes l.fn.sink x l.sink
    × (x ++ closing_text (comments_left l.comment-iterator)
    ≡ closing_text (comments_left l.fn.closing))
