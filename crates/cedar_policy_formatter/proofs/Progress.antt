-- What a range touches of the pieces read so far.
use Rattle.std.proofs.Common.{◌≡◌, ◌≤◌, ◌<◌, ◌+◌, ℕ, List, [], ◌∷◌, ◌++◌, length, take, drop, refl, ap, sym, ◌∙◌, subst, arith, inl, inr, append_assoc, append-nil}
use Rattle.std.specs.Prelude.{◌⊎◌}
use Rattle.std.specs.List.{sum_by}
use Rattle.std.proofs.lemmas.List.{drop-drop, length-take-le}
use Rattle.std.proofs.lemmas.List.Sums.{sum_by-append, sum_by-cons}
use Rattle.cedar_tokens.specs.declared.token.Span.{Span}
use Rattle.cedar_reading.specs.Pieces.{HasNoPiece, IsFirstPiece}
use Rattle.cedar_policy_formatter.specs.Pieces.{ArePieces, EachPiece, IsTouchedSpan, Touches, StartsAfter, EndsBefore}
use Rattle.cedar_policy_formatter.specs.Inside.Growing.{Grows}
use Rattle.cedar_policy_formatter.proofs.Chains.{chain_more, each_more}

-- the text is read up to the byte at, and the span is that of the pieces touched so far
pub record TouchedSoFar (text : List ℕ) (range span : Span) (at : ℕ) : Type 0 where
  pub before : List (List ℕ)
  pub touched : List (List ℕ)
  pub after : List (List ℕ)
  pub pieces : ArePieces (before ++ (touched ++ after)) text (drop at text)
  pub read : at ≡ sum_by length (before ++ (touched ++ after))
  pub start : span.start ≡ sum_by length before
  pub end : span.end ≡ span.start + sum_by length touched
  pub passed : EachPiece (StartsAfter range) 0 before
  pub met : EachPiece (Touches range) span.start touched
  pub left : EachPiece (EndsBefore range) span.end after

pub none_touched : (text : List ℕ) (range span : Span) (at : ℕ)
    → span ≡ record { start = 0; end = 0 } → at ≡ 0 → TouchedSoFar text range span at
none_touched text range span at e z = subst (λ s. TouchedSoFar text range s at) (sym e) (record {
  before = [];
  touched = [];
  after = [];
  pieces = ap (λ k. drop k text) (sym z);
  read = z;
  start = refl;
  end = refl;
  passed = tt;
  met = tt;
  left = tt;
})

-- ---- one more piece

module _ (text : List ℕ) (range span : Span) (at : ℕ) (t : TouchedSoFar text range span at)
    (p : List ℕ) (first : IsFirstPiece (drop at text) (length p))
    (bytes : p ≡ take (length p) (drop at text)) where
  pieces_more : ArePieces ((t.before ++ (t.touched ++ t.after)) ++ (p ∷ [])) text
      (drop (at + length p) text)
  pieces_more = subst (ArePieces ((t.before ++ (t.touched ++ t.after)) ++ (p ∷ [])) text)
      (drop-drop (length p) at text)
      (chain_more (t.before ++ (t.touched ++ t.after)) p text (drop at text) t.pieces first bytes)

  read_more : at + length p ≡ sum_by length ((t.before ++ (t.touched ++ t.after)) ++ (p ∷ []))
  read_more = omega (
    arith,
    t.read,
    sum_by-append length (t.before ++ (t.touched ++ t.after)) (p ∷ []),
    sum_by-cons length p [],
  )

  sums : at ≡ span.end + sum_by length t.after
  sums = omega (
    arith,
    t.read,
    t.start,
    t.end,
    sum_by-append length t.before (t.touched ++ t.after),
    sum_by-append length t.touched t.after,
  )

  -- the range starts no later than what it touches,
  -- and if it ends before a piece, that one isn't the next
  some_touched : (ts : List (List ℕ)) → ts ≡ t.touched → (range.start < at) ⊎ (ts ≡ [])
  some_touched [] e = inr refl
  some_touched (q ∷ qs) e = inl (let m = subst (EachPiece (Touches range) span.start) (sym e)
      t.met in omega (arith, m.0.0, sums, t.end, ap (sum_by length) e, sum_by-cons length q qs))

  some_left : (ts : List (List ℕ)) → ts ≡ t.after
      → ((range.start < at) × (range.end ≤ at)) ⊎ (ts ≡ [])
  some_left [] e = inr refl
  some_left (q ∷ qs) e = inl (let m = subst (EachPiece (EndsBefore range) span.end)
      (sym e) t.left in (omega (arith, m.0.1, sums), omega (arith, m.0.0, sums)))

  none_left : Touches range at (at + length p) → t.after ≡ []
  none_left h = elim (some_left t.after refl) [
    | inl l ↦ absurd (elim h.1 [ inl a ↦ omega (arith, l.1, a) | inr a ↦ omega (arith, l.0, a) ])
    | inr e ↦ e
  ]

  piece_passed : StartsAfter range at (at + length p) → TouchedSoFar text range
      (record { start = at + length p; end = at + length p }) (at + length p)
  piece_passed h =
      let touched : t.touched ≡ [] =
      elim (some_touched t.touched refl) [ inl l ↦ absurd (omega (arith, l, h)) | inr e ↦ e ] in
      let after : t.after ≡ [] =
      elim (some_left t.after refl) [ inl l ↦ absurd (omega (arith, l.0, h)) | inr e ↦ e ] in
      let only : t.before ++ (t.touched ++ t.after) ≡ t.before =
      ap (λ z. t.before ++ (z ++ t.after)) touched
      ∙ (ap (λ z. t.before ++ z) after ∙ append-nil t.before) in
      let same : (t.before ++ (p ∷ [])) ++ ([] ++ [])
      ≡ (t.before ++ (t.touched ++ t.after)) ++ (p ∷ []) =
      append-nil (t.before ++ (p ∷ [])) ∙ ap (λ z. z ++ (p ∷ [])) (sym only) in
      let place : at ≡ 0 + sum_by length t.before =
      omega (arith, t.read, ap (sum_by length) only) in
      record {
        before = t.before ++ (p ∷ []);
        touched = [];
        after = [];
        pieces = subst (λ z. ArePieces z text (drop (at + length p) text)) (sym same) pieces_more;
        read = read_more ∙ ap (sum_by length) (sym same);
        start =
            omega (arith, place, sum_by-append length t.before (p ∷ []), sum_by-cons length p []);
        end = omega arith;
        passed = each_more (StartsAfter range) 0 t.before p t.passed
            (subst (λ k. StartsAfter range k (k + length p)) place h);
        met = tt;
        left = tt;
      }

  piece_touched : Touches range at (at + length p)
      → TouchedSoFar text range (record { start = span.start; end = at + length p }) (at + length p)
  piece_touched h =
      let after : t.after ≡ [] = none_left h in
      let same : t.before ++ ((t.touched ++ (p ∷ [])) ++ [])
      ≡ (t.before ++ (t.touched ++ t.after)) ++ (p ∷ []) =
      ap (λ z. t.before ++ z) (append-nil (t.touched ++ (p ∷ [])))
      ∙ (sym (append_assoc t.before t.touched (p ∷ [])) ∙ ap (λ z. (t.before ++ z) ++ (p ∷ []))
      (sym (ap (λ z. t.touched ++ z) after ∙ append-nil t.touched))) in
      let place : at ≡ span.start + sum_by length t.touched =
      omega (arith, sums, t.end, ap (sum_by length) after) in
      record {
        before = t.before;
        touched = t.touched ++ (p ∷ []);
        after = [];
        pieces = subst (λ z. ArePieces z text (drop (at + length p) text)) (sym same) pieces_more;
        read = read_more ∙ ap (sum_by length) (sym same);
        start = t.start;
        end =
            omega (arith, place, sum_by-append length t.touched (p ∷ []), sum_by-cons length p []);
        passed = t.passed;
        met = each_more (Touches range) span.start t.touched p t.met
            (subst (λ k. Touches range k (k + length p)) place h);
        left = tt;
      }

  piece_left : EndsBefore range at (at + length p) → TouchedSoFar text range span (at + length p)
  piece_left h =
      let same : t.before ++ (t.touched ++ (t.after ++ (p ∷ [])))
      ≡ (t.before ++ (t.touched ++ t.after)) ++ (p ∷ []) =
      ap (λ z. t.before ++ z) (sym (append_assoc t.touched t.after (p ∷ [])))
      ∙ sym (append_assoc t.before (t.touched ++ t.after) (p ∷ [])) in
      record {
        before = t.before;
        touched = t.touched;
        after = t.after ++ (p ∷ []);
        pieces = subst (λ z. ArePieces z text (drop (at + length p) text)) (sym same) pieces_more;
        read = read_more ∙ ap (sum_by length) (sym same);
        start = t.start;
        end = t.end;
        passed = t.passed;
        met = t.met;
        left = each_more (EndsBefore range) span.end t.after p t.left
            (subst (λ k. EndsBefore range k (k + length p)) sums h);
      }

  pub touched_more : (new : Span)
      → Grows range span (record { start = at; end = at + length p }) new
      → TouchedSoFar text range new (at + length p)
  touched_more new (inl (h, e)) =
      subst (λ s. TouchedSoFar text range s (at + length p)) (sym e) (piece_passed h)
  touched_more new (inr (inl (h, e))) =
      subst (λ s. TouchedSoFar text range s (at + length p)) (sym e) (piece_touched h)
  touched_more new (inr (inr (h, e))) =
      subst (λ s. TouchedSoFar text range s (at + length p)) (sym e) (piece_left h)

-- one more piece by its length
pub touched_piece : (text : List ℕ) (range span : Span) (at n : ℕ)
    → TouchedSoFar text range span at → IsFirstPiece (drop at text) n
    → n ≤ length (drop at text) → (new : Span)
    → Grows range span (record { start = at; end = at + n }) new → TouchedSoFar text range new (at + n)
touched_piece text range span at n t first inside new grows =
    let p = take n (drop at text) in
    let size : length p ≡ n = length-take-le n (drop at text) inside in
    subst (λ k. TouchedSoFar text range new (at + k)) size (touched_more text range span at t p
    (subst (IsFirstPiece (drop at text)) (sym size) first)
    (ap (λ k. take k (drop at text)) (sym size)) new
    (subst (λ k. Grows range span (record { start = at; end = at + k }) new) (sym size) grows))

-- at the end
pub all_touched : (text : List ℕ) (range span : Span) (at : ℕ) → TouchedSoFar text range span at
    → HasNoPiece (drop at text) → IsTouchedSpan text range span
all_touched text range span at t no_more = record {
  before = t.before;
  touched = t.touched;
  after = t.after;
  rest = drop at text;
  pieces = t.pieces;
  no_more = no_more;
  start = t.start;
  end = t.end;
  passed = t.passed;
  met = t.met;
  left = t.left;
}
