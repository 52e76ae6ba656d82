use Rattle.std.proofs.Common.{◌≡◌, ◌<◌, ◌++◌, take, ap, ◌∙◌, subst, arith, inr, rules}
use Rattle.std.specs.Prelude.{string_bytes}
use Rattle.cedar_laws.specs.Canonical.{IsOutputOf}
use Rattle.cedar_edits.specs.Edits.{within}
use Rattle.cedar_policy_formatter.specs.RangeEdits.{feeds_after}
use Rattle.cedar_policy_formatter.proofs.EditLaws.{lays_out}
use Rattle.cedar_policy_formatter.proofs.ranges.format.lay_out.Goals as goal

pub returns-clause-layout : goal.returns-clause-layout
returns-clause-layout c =
    let w = c.args.config.now.line_width in
    let i = c.args.config.now.indent_width in
    let text = c.args.text.now in
    let out = string_bytes c.in_ok-layout.layout in
    let some : c.args.span.start < c.args.span.end =
    omega (arith, c.requires.part.order, c.if-span.false) in
    let part : c.range-2.result.now ≡ within text c.args.span = c.range-2.ensures.value in
    let front : c.range.result.now ≡ take c.args.span.start text = search rules in
    let laid = c.written_outputs_agree.ensures.back w i c.range-2.result.now out
    c.in_ok-layout.ensures.answer in
    let output = subst (λ z. IsOutputOf w i z out) part laid in
    let bytes : string_bytes c.push_str.new.self
    ≡ feeds_after (take c.args.span.start text) ++ out =
    c.in_ok-push_str.ensures.bytes
    ∙ (ap (λ z. string_bytes c.push_feeds.new.text ++ z) c.as_str.ensures.value
    ∙ (ap (λ z. z ++ out) (c.in_ok-push_feeds.ensures
    ∙ ap (λ z. z ++ feeds_after c.range.result.now) c.new-edit.ensures.bytes)
    ∙ ap (λ z. feeds_after z ++ out) front)) in
    inr (
      some,
      lays_out w i text c.args.span out (string_bytes c.push_str.new.self) c.utf8.text
          c.requires.pieces some output bytes,
    )
