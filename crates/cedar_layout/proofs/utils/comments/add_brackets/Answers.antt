use Rattle.std.proofs.Common.{ap, ◌∙◌}
use mir.Syntax.{w64}
use Rattle.std.proofs.lemmas.Int.{to_z-of_z}
use Rattle.cedar_layout.specs.Layout.{◌·◌, nest}
use Rattle.cedar_layout.specs.Value.{doc_of}
use Rattle.cedar_layout.proofs.Commented.{three}
use Rattle.cedar_layout.proofs.utils.comments.add_brackets.Goals as goal

pub returns : goal.returns
returns c =
    three c.in_ok-vec.field-0 c.args.leftp c.in_ok-inner.inner c.args.rightp
    c.in_ok-vec.ensures.items
    ∙ ap (λ x. doc_of c.args.leftp · x · doc_of c.args.rightp) c.in_ok-inner.ensures
    ∙ ap (λ n. doc_of c.args.leftp · nest n (doc_of c.args.d) · doc_of c.args.rightp)
    (to_z-of_z w64 c.args.offset c.ranges.offset)
