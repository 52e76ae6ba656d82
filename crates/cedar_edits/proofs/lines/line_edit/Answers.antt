use Rattle.std.proofs.Common.{◌≡◌, ◌≢◌, ◌+◌, ◌-◌, ℕ, true, false, List, length, take, drop, refl, ap, ◌∙◌, sym, subst, arith}
use Rattle.std.specs.Prelude.{string_bytes}
use Rattle.std.specs.Str.{IsCharBoundary}
use Rattle.std.specs.Str.{bytes_eq}
use Rattle.std.proofs.lemmas.Slice.Eq.{bytes_eq-Decides}
use Rattle.std.proofs.Math.Seq.{take-length}
use Rattle.cedar_edits.specs.declared.edits.Edit.{Edit}
use Rattle.cedar_edits.specs.Edits.{within}
use Rattle.cedar_edits.specs.Inside.Trims.{EndLines, StartLines}
use Rattle.cedar_edits.proofs.Parts.{last_boundary, line_boundary, trimmed_edit, trimmed_least}
use Rattle.cedar_edits.proofs.lines.line_edit.Goals as goal

pub range_from-old_rest-requires : goal.range_from-old_rest-requires
range_from-old_rest-requires c = λ _.
    let old = c.range-old.result.now in
    let found = subst (λ z. StartLines z c.as_bytes-2.result.now c.first_lines-first.result)
    c.as_bytes.ensures.value c.first_lines-first.ensures in
    subst (λ z. IsCharBoundary z c.first_lines-first.result) (sym (take-length old))
    (line_boundary old c.first_lines-first.result c.range-old.utf8 found.in_first found.first_line)

pub range_from-new_rest-requires : goal.range_from-new_rest-requires
range_from-new_rest-requires c = λ _.
    let new = c.args.new.now in
    let found = subst (λ z. StartLines c.as_bytes.result.now z c.first_lines-first.result)
    c.as_bytes-2.ensures.value c.first_lines-first.ensures in
    subst (λ z. IsCharBoundary z c.first_lines-first.result) (sym (take-length new))
    (line_boundary new c.first_lines-first.result c.utf8.new found.in_second found.second_line)

pub range-requires-clause-end_boundary : goal.range-requires-clause-end_boundary
range-requires-clause-end_boundary c =
    let rest = c.range_from-new_rest.result.now in
    let found = subst (λ z. EndLines c.as_bytes-3.result.now z c.last_lines-last.result)
    c.as_bytes-4.ensures.value c.last_lines-last.ensures in
    last_boundary rest c.last_lines-last.result c.range_from-new_rest.utf8 found.second_line

pub returns : goal.returns
returns c =
    let text = c.args.text.now in
    let new = c.args.new.now in
    let old : List ℕ = within text c.args.span in
    let n = c.first_lines-first.result in
    let m = c.last_lines-last.result in
    let starts : StartLines old new n = subst (λ z. StartLines z new n)
    (c.as_bytes.ensures.value ∙ c.range-old.ensures.value)
    (subst (λ z. StartLines c.as_bytes.result.now z n) c.as_bytes-2.ensures.value
    c.first_lines-first.ensures) in
    let old_rest : c.range_from-old_rest.result.now ≡ drop n old =
    c.range_from-old_rest.ensures.value
    ∙ ap (drop n) (take-length c.range-old.result.now ∙ c.range-old.ensures.value) in
    let new_rest : c.range_from-new_rest.result.now ≡ drop n new =
    c.range_from-new_rest.ensures.value ∙ ap (drop n) (take-length new) in
    let ends : EndLines (drop n old) (drop n new) m = subst (λ z. EndLines z (drop n new) m)
    (c.as_bytes-3.ensures.value ∙ old_rest)
    (subst (λ z. EndLines c.as_bytes-3.result.now z m) (c.as_bytes-4.ensures.value ∙ new_rest)
    c.last_lines-last.ensures) in
    let rest = c.range_from-new_rest.result.now in
    let whole : (length rest - m) - 0 ≡ length rest - m = omega arith in
    let put : string_bytes c.in_ok-put.put ≡ take (length (drop n new) - m) (drop n new) =
    c.in_ok-put.ensures.ok ∙ (c.range.ensures.value
    ∙ (ap (λ k. take k rest) whole ∙ ap (λ z. take (length z - m) z) new_rest)) in
    let edit : Edit = record {
      span = record { start = c.args.span.start + n; end = c.args.span.end - m };
      text = c.in_ok-put.put;
    } in
    let differ : old ≢ new = λ same.
    let true_is : bytes_eq c.range-old.result.now new ≡ true =
    (bytes_eq-Decides c.range-old.result.now new).1 (c.range-old.ensures.value ∙ same) in
    let absurd_is : false ≡ true = c.if-eq.ensures ∙ true_is in cc in
    record {
      edit = trimmed_edit text new c.args.span n m c.requires starts ends c.utf8.text edit
          (refl, put);
      least = trimmed_least text new c.args.span n m c.requires starts ends edit differ
          (refl, put);
    }
