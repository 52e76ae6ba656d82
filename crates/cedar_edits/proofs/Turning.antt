-- Edits that turn a part of a text into new bytes, from the start on.
use Rattle.std.proofs.Common.{◌≡◌, ◌≤◌, ◌+◌, ◌-◌, ℕ, List, [], ◌∷◌, ◌++◌, length, take, drop, refl, sym, ap, ◌∙◌, subst, inl, inr, arith, append_assoc, append-nil}
use Rattle.std.specs.Prelude.{◌⊎◌, slice_range, string_bytes}
use Rattle.std.specs.List.{AllByRecursion}
use Rattle.std.proofs.lemmas.List.{drop-drop}
use Rattle.std.proofs.lemmas.List.Folds.{drop_split}
use Rattle.std.proofs.Math.Seq.{take-add}
use Rattle.cedar_tokens.specs.declared.token.Span.{Span}
use Rattle.cedar_edits.specs.declared.edits.Edit.{Edit}
use Rattle.cedar_edits.specs.Edits.{AreInOrder, edited, edited_by, edited_from, within}
use Rattle.cedar_edits.specs.Lines.{IsLeast, Replaces}

pub range_split : (text : List ℕ) (a m b : ℕ) → a ≤ m → m ≤ b
    → slice_range text a b ≡ slice_range text a m ++ slice_range text m b
range_split text a m b first second =
    let size : b - a ≡ (m - a) + (b - m) = omega arith in
    let place : a + (m - a) ≡ m = omega arith in
    ap (λ n. take n (drop a text)) size ∙ (take-add (m - a) (b - m) (drop a text)
    ∙ ap (λ z. slice_range text a m ++ take (b - m) z)
    (drop-drop (m - a) a text ∙ ap (λ n. drop n text) place))

-- edits that begin later leave what comes before them
pub edited_later : (text : List ℕ) (a m : ℕ) (es : List Edit) → a ≤ m → AreInOrder text m es
    → edited_from text a es ≡ slice_range text a m ++ edited_from text m es
edited_later text a m [] h o = drop_split text a m h
edited_later text a m (e ∷ es) h o =
    let rest = string_bytes e.text ++ edited_from text e.span.end es in
    ap (λ z. z ++ rest) (range_split text a m e.span.start h o.0)
    ∙ append_assoc (slice_range text a m) (slice_range text m e.span.start) rest

pub in_order_before : (text : List ℕ) (a m : ℕ) (es : List Edit) → a ≤ m → AreInOrder text m es
    → AreInOrder text a es
in_order_before text a m [] h o = tt
in_order_before text a m (e ∷ es) h o = (omega (arith, o.0), o.1, o.2)

-- the edits turn what the span has before the byte `at`, and this is left of the new bytes
pub record IsTurned (text : List ℕ) (span : Span) (new : List ℕ) (edits : List Edit) (at : ℕ)
    (rest : List ℕ) : Type 0 where
  pub turns : (more : List Edit) → AreInOrder text at more
      → edited_from text at more ≡ rest ++ drop span.end text
      → AreInOrder text 0 (edits ++ more)
      × (edited_by text (edits ++ more) ≡ edited text span new)
  pub least : AllByRecursion (IsLeast text) edits

pub none_turned : (text : List ℕ) (span : Span) (new : List ℕ) (edits : List Edit) → edits ≡ []
    → IsTurned text span new edits span.start new
none_turned text span new edits none = record {
  turns = λ more order bytes.
      let front : span.start - 0 ≡ span.start = omega arith in
      subst (λ es. AreInOrder text 0 (es ++ more) × (edited_by text (es ++ more)
      ≡ edited text span new)) (sym none) (
        in_order_before text 0 span.start more (omega arith) order,
        edited_later text 0 span.start more (omega arith) order
            ∙ (ap (λ n. take n text ++ edited_from text span.start more) front
            ∙ ap (λ z. take span.start text ++ z) bytes),
      );
  least = subst (AllByRecursion (IsLeast text)) (sym none) tt;
}

least_more : (text : List ℕ) (edits : List Edit) (e : Edit) → AllByRecursion (IsLeast text) edits
    → IsLeast text e → AllByRecursion (IsLeast text) (edits ++ (e ∷ []))
least_more text [] e all one = (one, tt)
least_more text (d ∷ edits) e all one = (all.0, least_more text edits e all.1 one)

-- one more part is turned: by no edit, if it stays, or by one
pub turned_more : (text : List ℕ) (span : Span) (new : List ℕ) (edits now : List Edit) (at end : ℕ)
    (part rest : List ℕ) → at ≤ end → IsTurned text span new edits at (part ++ rest)
    → ((now ≡ edits) × (part ≡ within text (record { start = at; end = end })))
    ⊎ ((e : Edit) × (now ≡ edits ++ (e ∷ []))
    × Replaces text (record { start = at; end = end }) part e × IsLeast text e)
    → IsTurned text span new now end rest
turned_more text span new edits now at end part rest order t (inl (same, stays)) =
    subst (λ es. IsTurned text span new es end rest) (sym same) (record {
      turns = λ more later bytes. t.turns more (in_order_before text at end more order later)
          (edited_later text at end more order later
          ∙ (ap (λ z. z ++ edited_from text end more) (sym stays)
          ∙ (ap (λ z. part ++ z) bytes ∙ sym (append_assoc part rest (drop span.end text)))));
      least = t.least;
    })
turned_more text span new edits now at end part rest order t (inr (e, same, r, one)) =
    subst (λ es. IsTurned text span new es end rest) (sym same) (record {
      turns = λ more later bytes.
          subst (λ es. AreInOrder text 0 es × (edited_by text es ≡ edited text span new))
          (sym (append_assoc edits (e ∷ []) more))
          (t.turns (e ∷ more)
          (r.start, r.part, in_order_before text e.span.end end more r.end later)
          (ap (λ z. slice_range text at e.span.start ++ (string_bytes e.text ++ z))
          (edited_later text e.span.end end more r.end later)
          ∙ (ap (λ z. slice_range text at e.span.start ++ z)
          (sym (append_assoc (string_bytes e.text) (slice_range text e.span.end end)
          (edited_from text end more)))
          ∙ (sym (append_assoc (slice_range text at e.span.start)
          (string_bytes e.text ++ slice_range text e.span.end end) (edited_from text end more))
          ∙ (ap (λ z. z ++ edited_from text end more) r.bytes
          ∙ (ap (λ z. part ++ z) bytes ∙ sym (append_assoc part rest (drop span.end text))))))));
      least = least_more text edits e t.least one;
    })

pub all_turned : (text : List ℕ) (span : Span) (new : List ℕ) (edits : List Edit)
    → IsTurned text span new edits span.end []
    → AreInOrder text 0 edits × (edited_by text edits ≡ edited text span new)
all_turned text span new edits t =
    subst (λ es. AreInOrder text 0 es × (edited_by text es ≡ edited text span new))
    (append-nil edits) (t.turns [] tt refl)
