-- Ends of pieces are places that a client can name.
use Rattle.std.proofs.Common.{◌≡◌, ◌≢◌, ◌≤◌, ◌<◌, ◌+◌, ◌-◌, ℕ, List, [], ◌∷◌, ◌++◌, length, get_or, drop, refl, sym, ap, ◌∙◌, subst, inl, inr, arith, append_assoc, length-append}
use Rattle.std.specs.Prelude.{slice_range, codes}
use Rattle.std.specs.List.{concat}
use Rattle.std.specs.Str.{IsCharBoundary, IsUtf8}
use Rattle.std.proofs.lemmas.Bool.{cases_lt}
use Rattle.std.proofs.lemmas.List.{get_or-drop, get_or-take, get_or_past, length-drop, length-take-le}
use Rattle.std.proofs.lemmas.List.Folds.{concat-append}
use Rattle.std.proofs.lemmas.Str.{IsCharBoundary-end, IsCharBoundary-start}
use Rattle.std.proofs.Math.Seq.{get_or-append_seam}
use Rattle.cedar_tokens.specs.Bytes.{line_feed}
use Rattle.cedar_tokens.specs.Units.{IsToken, blank}
use Rattle.cedar_tokens.specs.declared.token.Span.{Span}
use Rattle.cedar_tokens.proofs.Heads.{no_empty_token, token_class, token_of}
use Rattle.cedar_tokens.proofs.UnitsSoFar.{concat_length, scans_concat}
use Rattle.cedar_reading.specs.Pieces.{BeginsNoBlank, EndInFeed, IsFirstPiece, IsPiece}
use Rattle.cedar_reading.proofs.Prefixes.{piece_positive}
use Rattle.cedar_edits.specs.Laws.{CanBeNamed}
use Rattle.cedar_edits.specs.Edits.{IsNamedPart, IsPartOf}
use Rattle.cedar_policy_formatter.specs.Inside.Growing.{Grows}

-- what follows a piece that ends within a line does not begin with a line feed
no_feed_follows : (rest : List ℕ) → BeginsNoBlank rest → get_or rest 0 0 ≢ 10
unfolding lib.Utf8.encode
no_feed_follows [] b e = omega (arith, e)
no_feed_follows (c ∷ rest) (inl none) e = none (line_feed ∷ []) (blank (10, refl, refl))
    (rest, ap (λ z. z ∷ rest) e)
no_feed_follows (c ∷ rest) (inr ([], first, token)) e = no_empty_token token
no_feed_follows (c ∷ rest) (inr (d ∷ u, first, token)) e =
    let more = first.begins in
    let same : d ≡ 10 = (let f : c ≡ d = (let g : c ∷ rest ≡ (d ∷ u) ++ more.0 = more.1 in cc) in sym f ∙ e) in
    absurd (omega (arith, token_class 10 u (token_of 10 u (subst (λ z. IsToken (z ∷ u)) same token))))

-- the last byte of a piece that goes through its line's end
last_feed : (s : List ℕ) (n : ℕ) → (p : IsPiece s n) → EndInFeed p.line → get_or s (n - 1) 0 ≡ 10
last_feed s n p (front, fed, _) =
    let xs = p.before ++ (codes ";" ∷ front) in
    let us = p.before ++ (codes ";" ∷ p.line) in
    let split : us ≡ xs ++ ((line_feed ∷ []) ∷ []) =
    ap (λ l. p.before ++ (codes ";" ∷ l)) fed
    ∙ sym (append_assoc p.before (codes ";" ∷ front) ((line_feed ∷ []) ∷ [])) in
    let bytes : concat us ≡ concat xs ++ (line_feed ∷ []) =
    ap concat split ∙ concat-append xs ((line_feed ∷ []) ∷ []) in
    let whole : s ≡ concat xs ++ (line_feed ∷ drop n s) =
    scans_concat us s (drop n s) p.scans ∙ (ap (λ z. z ++ drop n s) bytes
    ∙ append_assoc (concat xs) (line_feed ∷ []) (drop n s)) in
    let last : n - 1 ≡ length (concat xs) = omega (
      arith,
      p.place,
      concat_length us,
      ap length bytes,
      length-append (concat xs) (line_feed ∷ []),
    ) in
    ap (λ k. get_or s k 0) last ∙ (ap (λ z. get_or z (length (concat xs)) 0) whole
    ∙ get_or-append_seam (concat xs) line_feed (drop n s) 0)

-- a piece does not end between a carriage return and its line feed
piece_outside : (s : List ℕ) (n : ℕ) → IsPiece s n → get_or s (n - 1) 0 ≡ 13 → get_or s n 0 ≡ 10 → ⊥
piece_outside s n p return feed = elim p.rest_of_line.ends [
  | inl ends ↦ omega (arith, last_feed s n p ends, return)
  | inr within ↦
      let here : n + 0 ≡ n = omega arith in
      no_feed_follows (drop n s) within.1
      (get_or-drop n s 0 0 ∙ (ap (λ k. get_or s k 0) here ∙ feed))
]

-- so a client can name the end of a piece of a part of a text, if it can name the end of the part
module _ (text s : List ℕ) (at : ℕ)
    (same : (k : ℕ) → k < length s → get_or s k 0 ≡ get_or text (at + k) 0)
    (inside : at + length s ≤ length text) (named : CanBeNamed text (at + length s)) where
  piece_named : (n : ℕ) → IsFirstPiece s n → IsCharBoundary s n → CanBeNamed text (at + n)
  piece_named n first boundary = elim (cases_lt n (length s)) [
    | inr past ↦
        let all : length s ≡ n = omega (arith, boundary.0) in
        subst (λ k. CanBeNamed text (at + k)) all named
    | inl before ↦ record {
      boundary = (
        omega arith,
        λ _ high. subst (λ b. 192 ≤ b) (same n before)
            (boundary.1 before (subst (λ b. 128 ≤ b) (sym (same n before)) high)),
      );
      outside = λ h.
          let some = piece_positive s n first.piece in
          let place : at + (n - 1) ≡ (at + n) - 1 = omega arith in
          piece_outside s n first.piece
          (same (n - 1) (omega arith) ∙ (ap (λ k. get_or text k 0) place ∙ h.1))
          (same n before ∙ h.2);
    }
  ]

-- a client can name both ends of a text
pub start_named : (text : List ℕ) → IsUtf8 text → CanBeNamed text 0
start_named text u = record {
  boundary = IsCharBoundary-start text u;
  outside = λ h. omega (arith, h.0);
}

pub end_named : (text : List ℕ) → CanBeNamed text (length text)
end_named text = record {
  boundary = IsCharBoundary-end text;
  outside = λ h. omega (arith, h.2, get_or_past text (length text) 0 (omega arith));
}

-- the end of a piece of what is left of a text
pub rest_piece_named : (text : List ℕ) (at n : ℕ) → at ≤ length text
    → IsFirstPiece (drop at text) n → IsCharBoundary (drop at text) n → CanBeNamed text (at + n)
rest_piece_named text at n inside first boundary =
    let end : length text ≡ at + length (drop at text) = omega (arith, length-drop at text) in
    piece_named text (drop at text) at (λ k _. get_or-drop at text k 0) (omega (arith, end))
    (subst (CanBeNamed text) end (end_named text)) n first boundary

-- the end of a piece of a part of a text
pub part_piece_named : (text : List ℕ) (at end n : ℕ) → at ≤ end → end ≤ length text
    → CanBeNamed text end → IsFirstPiece (slice_range text at end) n
    → IsCharBoundary (slice_range text at end) n → (CanBeNamed text (at + n)) × (at + n ≤ end)
part_piece_named text at end n order inside named first boundary =
    let size : length (slice_range text at end) ≡ end - at =
    length-take-le (end - at) (drop at text) (omega (arith, length-drop at text)) in
    let last : end ≡ at + length (slice_range text at end) = omega (arith, size) in (
      piece_named text (slice_range text at end) at
          (λ k below. get_or-take (end - at) (drop at text) k 0 (omega (arith, size))
          ∙ get_or-drop at text k 0) (omega (arith, last))
          (subst (CanBeNamed text) last named) n first boundary,
      omega (arith, boundary.0, size),
    )

pub part_from_named : (text : List ℕ) (span : Span) → IsNamedPart text span → IsPartOf text span
part_from_named text span p = record {
  order = p.order;
  inside = p.inside;
  first = p.first.boundary;
  last = p.last.boundary;
}

-- the ends of the span of the pieces touched so far
pub grown_named : (text : List ℕ) (range span piece new : Span) → CanBeNamed text span.start
    → CanBeNamed text span.end → CanBeNamed text piece.end → Grows range span piece new
    → CanBeNamed text new.start × CanBeNamed text new.end
grown_named text range span piece new first last end (inl (_, e)) =
    subst (λ (s : Span). CanBeNamed text s.start × CanBeNamed text s.end) (sym e) (end, end)
grown_named text range span piece new first last end (inr (inl (_, e))) =
    subst (λ (s : Span). CanBeNamed text s.start × CanBeNamed text s.end) (sym e) (first, end)
grown_named text range span piece new first last end (inr (inr (_, e))) =
    subst (λ (s : Span). CanBeNamed text s.start × CanBeNamed text s.end) (sym e) (first, last)
