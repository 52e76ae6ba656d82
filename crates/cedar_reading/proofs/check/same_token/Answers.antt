use Rattle.std.proofs.Common.{ap, sym, ◌∙◌}
use Rattle.cedar_tokens.specs.Listing.{Decorated, token_value}
use Rattle.cedar_tokens.proofs.Equality.{comments}
use Rattle.cedar_reading.proofs.check.same_token.Goals as goal

pub returns-then-eq : goal.returns-then-eq
returns-then-eq c =
    let same =
    (comments c.args.a.now.comment c.args.b.now.comment).0 (rw (sym c.eq.ensures) c.if-eq.true) in
    let texts = c.same_value.ensures in (
      λ h. cc (
        sym (ap token_value c.text.ensures) ∙ texts.0 h ∙ ap token_value c.text-then-eq.ensures,
        same.0,
        same.1,
      ),
      λ e. texts.1 (ap token_value c.text.ensures ∙ ap (λ (d : Decorated). d.text) e
          ∙ sym (ap token_value c.text-then-eq.ensures)),
    )

pub returns-else-eq : goal.returns-else-eq
returns-else-eq c = (
  λ h. let f = c.if-eq.false in absurd cc,
  λ e. rw c.eq.ensures ((comments c.args.a.now.comment c.args.b.now.comment).1
      (ap (λ (d : Decorated). d.leading) e, ap (λ (d : Decorated). d.trailing) e)),
)
