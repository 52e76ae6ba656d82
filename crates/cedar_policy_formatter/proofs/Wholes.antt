-- All of a text as a part of it, and a part that stays.
use Rattle.std.proofs.Common.{◌≡◌, ◌+◌, ◌-◌, ◌≤◌, ℕ, List, ◌++◌, length, take, drop, sym, ap, ◌∙◌, subst, arith, append-nil}
use Rattle.std.specs.Str.{IsUtf8}
use Rattle.std.proofs.lemmas.List.{append_cancel_left, append_cancel_right, drop-drop, drop_all, take-append-drop}
use Rattle.cedar_tokens.specs.declared.token.Span.{Span}
use Rattle.cedar_edits.specs.Edits.{IsNamedPart, edited, within}
use Rattle.cedar_edits.specs.Returns.{with_returns}
use Rattle.cedar_policy_formatter.specs.Keeping.{InLineEnds}
use Rattle.cedar_policy_formatter.proofs.Named.{end_named, start_named}

abbrev pub whole : List ℕ → Span
whole text = record { start = 0; end = length text }

pub whole_named : (text : List ℕ) → IsUtf8 text → IsNamedPart text (whole text)
whole_named text u = record {
  order = omega arith;
  inside = omega arith;
  first = start_named text u;
  last = end_named text;
}

pub whole_edited : (text new : List ℕ) → edited text (whole text) new ≡ new
whole_edited text new =
    ap (λ z. new ++ z) (drop_all (length text) text (omega arith)) ∙ append-nil new

-- a part whose replacement changes nothing is its replacement
pub part_stays : (text : List ℕ) (span : Span) (new : List ℕ) → span.start ≤ span.end
    → edited text span new ≡ text → new ≡ within text span
part_stays text span new order same =
    let rest = drop span.end text in
    let place : span.start + (span.end - span.start) ≡ span.end = omega arith in
    let left : within text span ++ rest ≡ drop span.start text =
    ap (λ z. within text span ++ z) (sym (drop-drop (span.end - span.start) span.start text
    ∙ ap (λ k. drop k text) place))
    ∙ take-append-drop (span.end - span.start) (drop span.start text) in
    append_cancel_right new (within text span) rest (append_cancel_left (take span.start text)
    (new ++ rest) (within text span ++ rest)
    (same ∙ (sym (take-append-drop span.start text) ∙ ap (λ z. take span.start text ++ z) (sym left))))

-- the text that edits make of all of a text
pub whole_ends : (text out put result : List ℕ)
    → InLineEnds text (edited text (whole text) out) (edited text (whole text) (with_returns out))
    (edited text (whole text) put)
    → result ≡ edited text (whole text) put → InLineEnds text out (with_returns out) result
whole_ends text out put result ends same =
    subst (InLineEnds text out (with_returns out)) (sym same)
    (subst (λ z. InLineEnds text out z (edited text (whole text) put))
    (whole_edited text (with_returns out))
    (subst (λ z. InLineEnds text z (edited text (whole text) (with_returns out))
    (edited text (whole text) put)) (whole_edited text out) ends))

-- a part that is replaced by itself
pub part_kept : (text : List ℕ) (span : Span) (new : List ℕ) → span.start ≤ span.end
    → new ≡ within text span → edited text span new ≡ text
part_kept text span new order same =
    let rest = drop span.end text in
    let place : span.start + (span.end - span.start) ≡ span.end = omega arith in
    ap (λ z. take span.start text ++ (z ++ rest)) same
    ∙ (ap (λ z. take span.start text ++ z)
    (ap (λ z. within text span ++ z) (sym (drop-drop (span.end - span.start) span.start text
    ∙ ap (λ k. drop k text) place))
    ∙ take-append-drop (span.end - span.start) (drop span.start text))
    ∙ take-append-drop span.start text)
