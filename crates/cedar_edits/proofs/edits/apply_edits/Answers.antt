use Rattle.std.proofs.Common.{◌≡◌, ◌<◌, ◌+◌, suc, ◌∷◌, ◌++◌, length, drop, sym, ap, ◌∙◌, subst, arith, add-one}
use Rattle.std.specs.Prelude.{slice_range, string_bytes}
use Rattle.std.proofs.lemmas.Str.{IsCharBoundary-start}
use Rattle.std.proofs.Math.Seq.{drop-cons}
use Rattle.cedar_edits.specs.Edits.{AreInOrder, edited_from}
use Rattle.cedar_edits.proofs.Applying.{IsApplied, applied_more}
use Rattle.cedar_edits.proofs.edits.apply_edits.Goals as goal

pub loop-edit-init : goal.loop-edit-init
loop-edit-init c = record {
  order = c.requires;
  place = IsCharBoundary-start c.args.text.now c.utf8.text;
  bytes = ap (λ bs. bs ++ edited_from c.args.text.now 0 c.args.edits.now) c.new-result.ensures.bytes;
}

pub loop-edit-preserved : goal.loop-edit-preserved
loop-edit-preserved c =
    let text = c.args.text.now in
    let edits = c.args.edits.now in
    let k = c.loop-edit.edit-index in
    let e = c.edit-item.result in
    let within : k < length edits = omega arith in
    let left : drop k edits ≡ e ∷ drop (k + 1) edits = drop-cons edits k e within
    ∙ (ap (λ x. x ∷ drop (suc k) edits) (sym c.edit-item.is)
    ∙ ap (λ n. e ∷ drop n edits) (sym (add-one k))) in
    let order = subst (AreInOrder text c.loop-edit.at) left c.loop-edit.invariant.order in
    let bytes : string_bytes c.push_str-in-loop-edit.new.self
    ≡ (string_bytes c.loop-edit.result ++ slice_range text c.loop-edit.at e.span.start)
    ++ string_bytes e.text =
    c.in_ok-push_str-2.ensures.bytes ∙ (ap (λ z. z ++ c.as_str.result.now)
    (c.in_ok-push_str.ensures.bytes ∙ ap (λ z. string_bytes c.loop-edit.result ++ z)
    c.range.ensures.value) ∙ ap (λ z. (string_bytes c.loop-edit.result
    ++ slice_range text c.loop-edit.at e.span.start) ++ z) c.as_str.ensures.value) in
    subst (IsApplied text edits (drop (k + 1) edits) e.span.end) (sym bytes)
    (applied_more text edits (drop k edits) (drop (k + 1) edits) c.loop-edit.at e
    (string_bytes c.loop-edit.result) left order c.loop-edit.invariant.bytes)
