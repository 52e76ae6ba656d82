use Rattle.std.proofs.Common.{subst}
use Rattle.cedar_tokens.specs.Split.{HasKind}
use Rattle.cedar_server.proofs.Reading.{comment_part, blank_part}
use Rattle.cedar_server.proofs.parts.part_kind.Goals as goal

pub returns-in-Comment : goal.returns-in-Comment
returns-in-Comment c =
    λ u h. comment_part u (subst (λ k. HasKind k u) c.in-Comment.is h)

pub returns-in-Blank : goal.returns-in-Blank
returns-in-Blank c = λ u h. blank_part u (subst (λ k. HasKind k u) c.in-Blank.is h)
