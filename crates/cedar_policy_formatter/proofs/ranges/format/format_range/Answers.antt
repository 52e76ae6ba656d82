use Rattle.std.proofs.Common.{◌≡◌, ap, sym, subst, ◌∙◌}
use Rattle.std.specs.Prelude.{string_bytes}
use Rattle.std.proofs.lemmas.Result.{err_from_is_err_and}
use Rattle.cedar_grammar.specs.Refusals.{Refuses}
use Rattle.cedar_edits.specs.Edits.{edited, edited_by, within}
use Rattle.cedar_edits.specs.Returns.{with_returns}
use Rattle.cedar_policy_formatter.specs.Keeping.{InLineEnds}
use Rattle.cedar_policy_formatter.specs.RangeEdits.{IsRefusedAt}
use Rattle.cedar_policy_formatter.proofs.EditLaws.{edit_alike, have_equal_lists, pieces_accepted, touched_pieces}
use Rattle.cedar_policy_formatter.proofs.LineEnds.{ends_keep}
use Rattle.cedar_policy_formatter.proofs.Named.{part_from_named}
use Rattle.cedar_policy_formatter.proofs.OnlyMemory.{memory_or, only_memory}
use Rattle.cedar_policy_formatter.proofs.ranges.format.format_range.Goals as goal

pub lay_out-requires-clause-pieces : goal.lay_out-requires-clause-pieces
lay_out-requires-clause-pieces c =
    touched_pieces c.args.text.now c.args.range c.touched_span-span.result c.touched_span-span.ensures.span

pub returns-in_err-layout-clause-answer : goal.returns-in_err-layout-clause-answer
returns-in_err-layout-clause-answer c =
    let text = c.args.text.now in
    let p = err_from_is_err_and c.from_residual.result
    c.from_residual.ensures.1 in
    rw (p.1, p.2) (memory_or (Refuses (within text c.touched_span-span.result))
    (IsRefusedAt text c.args.range) (λ e refused. record {
      span = c.touched_span-span.result;
      touched = c.touched_span-span.ensures.span;
      some = c.in_err-layout.ensures.some;
      refused = refused;
    }) c.in_err-layout.field-0.0 c.in_err-layout.ensures.refused)

pub returns-in_err-layout-clause-accepted : goal.returns-in_err-layout-clause-accepted
returns-in_err-layout-clause-accepted c =
    let text = c.args.text.now in
    let span = c.touched_span-span.result in
    let p = err_from_is_err_and c.from_residual.result
    c.from_residual.ensures.1 in
    rw (p.1, p.2) (λ accepted. only_memory (Refuses (within text span)) (λ e refused.
    c.accepted_is_not_refused.ensures (within text span) e
    (pieces_accepted text span accepted
    (touched_pieces text c.args.range span c.touched_span-span.ensures.span)
    c.in_err-layout.ensures.some) refused) c.in_err-layout.field-0.0
    c.in_err-layout.ensures.refused)

pub returns-clause-keeps : goal.returns-clause-keeps
returns-clause-keeps c =
    let w = c.args.config.now.line_width in
    let i = c.args.config.now.indent_width in
    let text = c.args.text.now in
    let span = c.touched_span-span.result in
    let bytes = string_bytes c.in_ok-layout.layout in
    let result = edited_by text c.in_ok-edits.edits.items in
    let same : result ≡ edited text span (string_bytes c.in_ok-layout-2.layout) =
    c.in_ok-edits.ensures.bytes ∙ ap (edited text span) c.as_str.ensures.value in
    let ends : InLineEnds text (edited text span bytes) (edited text span (with_returns bytes))
    result = subst (InLineEnds text (edited text span bytes)
    (edited text span (with_returns bytes))) (sym same) c.in_ok-layout-2.ensures in
    ends_keep text (edited text span bytes) (edited text span (with_returns bytes)) result ends
    (λ accepted.
    let alike = edit_alike w i text c.args.range span bytes c.utf8.text accepted
    (part_from_named text span c.touched_span-span.ensures.part) c.touched_span-span.ensures.span
    c.in_ok-layout.ensures.layout in
    (alike.keeps, have_equal_lists text (edited text span bytes) alike))
