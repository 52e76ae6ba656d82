use Rattle.std.proofs.Common.{◌∙◌, subst}
use Rattle.cedar_server.specs.Parts.{HasPartKind}
use Rattle.cedar_server.proofs.Lining.{token_line, comment_line, other_line}
use Rattle.cedar_server.proofs.folds.line_with.Goals as goal

pub returns-in-Token : goal.returns-in-Token
returns-in-Token c = token_line c.args.line c.args.part.text.now c.args.span
    (subst (λ k. HasPartKind k c.args.part.text.now) c.in-Token.is c.requires)

pub returns-in-Comment : goal.returns-in-Comment
returns-in-Comment c = c.comment_on.ensures ∙ comment_line c.args.line c.args.part.text.now c.args.span
    (subst (λ k. HasPartKind k c.args.part.text.now) c.in-Comment.is c.requires)

pub returns-in-Other : goal.returns-in-Other
returns-in-Other c = other_line c.args.line c.args.part.text.now c.args.span
    (subst (λ k. HasPartKind k c.args.part.text.now) c.in-Other.is c.requires)
