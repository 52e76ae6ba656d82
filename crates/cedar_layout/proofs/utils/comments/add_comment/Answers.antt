use Rattle.std.proofs.Common.{◌≡◌, IfOk, ap, ◌∙◌, subst}
use Rattle.cedar_layout.specs.Comments.{lead_of, trail_of}
use Rattle.cedar_layout.specs.Layout.{◌·◌}
use Rattle.cedar_layout.specs.Value.{doc_of}
use Rattle.cedar_layout.proofs.Commented.{joined_three}
use Rattle.cedar_layout.proofs.Values.{dot_assoc}
use Rattle.cedar_layout.proofs.utils.comments.add_comment.Goals as goal

pub returns : goal.returns
returns c =
    let leading = doc_of c.in_ok-leading.leading in
    let d = doc_of c.args.d in
    let trailing = doc_of c.in_ok-trailing.trailing in
    subst (λ x. IfOk c.append-2.result (λ r. doc_of r ≡ x))
    (ap (λ x. x · trailing) c.in_ok-led.ensures ∙ dot_assoc leading d trailing
    ∙ joined_three leading _ d trailing _
    (c.in_ok-leading.ensures ∙ ap lead_of c.leading_comment.ensures)
    (c.in_ok-trailing.ensures
    ∙ ap (λ t. trail_of t (doc_of c.args.next_doc)) c.trailing_comment.ensures))
    c.append-2.ensures
