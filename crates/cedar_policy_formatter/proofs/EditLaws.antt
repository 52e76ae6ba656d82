-- What an edit that lays out pieces of a text preserves.
use Rattle.std.proofs.Common.{◌≡◌, ◌≤◌, ◌<◌, ◌+◌, ◌-◌, ℕ, ℤ, List, [], ◌∷◌, ◌++◌, length, take, drop, ap, sym, ◌∙◌, subst, arith, inl, inr}
use Rattle.std.specs.Prelude.{◌⊎◌}
use Rattle.std.specs.List.{sum_by}
use Rattle.std.specs.Str.{IsUtf8}
use Rattle.std.proofs.lemmas.List.{take-append-drop}
use Rattle.std.proofs.lemmas.Str.{IsUtf8-between}
use Rattle.cedar_tokens.specs.declared.token.Span.{Span}
use Rattle.cedar_grammar.specs.Texts.{Accepted}
use Rattle.cedar_laws.specs.Canonical.{IsOutputOf}
use Rattle.cedar_reading.specs.Pieces.{IsPiece}
use Rattle.cedar_cst.specs.PolicyReaders.{EndsPiece}
use Rattle.cedar_written.specs.Lists.{HaveEqualLists}
use Rattle.cedar_policy_formatter.specs.Pieces.{ArePieces, IsTouchedSpan}
use Rattle.cedar_edits.specs.Edits.{IsPartOf, edited, within}
use Rattle.cedar_policy_formatter.specs.RangeEdits.{feeds_after, LaysOut, LaysOutPolicies}
use Rattle.cedar_policy_formatter.specs.Inside.Parts.{HoldsPieces}
use Rattle.cedar_cst.proofs.Places.{place_accepted}
use Rattle.cedar_policy_formatter.proofs.Chains.{chain_parts, chain_place, chain_piece}
use Rattle.cedar_policy_formatter.proofs.Keeping.{Alike, equal_lists, laid_out_alike, same_alike}
use Rattle.cedar_policy_formatter.proofs.Standing.{stands_in_output}

-- a range touches whole pieces
pub touched_pieces : (text : List ℕ) (range span : Span) → IsTouchedSpan text range span
    → HoldsPieces text span
touched_pieces text range span t = record {
  first = subst (EndsPiece text) (sym t.start)
      (chain_place t.before text (drop (sum_by length t.before) text) before.0);
  pieces = go t.touched inner.0 t.end;
}
  where
    before : ArePieces t.before text (drop (sum_by length t.before) text)
        × ArePieces (t.touched ++ t.after) (drop (sum_by length t.before) text) t.rest
    before = chain_parts t.before (t.touched ++ t.after) text t.rest t.pieces

    rest : List ℕ
    rest = drop (sum_by length t.before) text

    inner : ArePieces t.touched (drop (sum_by length t.before) text)
        (drop (sum_by length t.touched) (drop (sum_by length t.before) text)) × ArePieces t.after
        (drop (sum_by length t.touched) (drop (sum_by length t.before) text)) t.rest
    inner = chain_parts t.touched t.after (drop (sum_by length t.before) text) t.rest before.1

    go : (ps : List (List ℕ)) → ArePieces ps (drop (sum_by length t.before) text) (drop
        (sum_by length t.touched) (drop (sum_by length t.before) text))
        → span.end ≡ span.start + sum_by length ps
        → (span.start ≡ span.end) ⊎ IsPiece (drop span.start text) (span.end - span.start)
    go [] s e = inl (omega (arith, e))
    go (p ∷ ps) s e =
        let len : sum_by length (p ∷ ps) ≡ span.end - span.start = omega (arith, e) in
        inr (subst (λ k. IsPiece (drop k text) (span.end - span.start)) (sym t.start) (subst
        (IsPiece (drop (sum_by length t.before) text)) len (chain_piece p ps (drop (sum_by length
        t.before) text) (drop (sum_by length t.touched) (drop (sum_by length t.before) text)) s)))

ends_order : (text : List ℕ) (range span : Span) → IsTouchedSpan text range span
    → span.start ≤ span.end
ends_order text range span t = omega (arith, t.end)

-- ---- edits

-- the pieces of a span that is not empty
pub pieces_of : (text : List ℕ) (span : Span) → HoldsPieces text span → span.start < span.end
    → IsPiece (drop span.start text) (span.end - span.start)
pieces_of text span h l = elim h.pieces [ inl e ↦ absurd (omega (arith, l, e)) | inr p ↦ p ]

pub pieces_accepted : (text : List ℕ) (span : Span) → Accepted text → HoldsPieces text span
    → span.start < span.end → Accepted (within text span)
pieces_accepted text span a h l = (place_accepted (drop span.start text) (span.end - span.start)
    (inr (pieces_of text span h l)) (place_accepted text span.start h.first a).1).0

-- what is laid out for a span
pub lays_out : (w : ℕ) (i : ℤ) (text : List ℕ) (span : Span) (out bytes : List ℕ) → IsUtf8 text
    → HoldsPieces text span → span.start < span.end
    → IsOutputOf w i (within text span) out → bytes ≡ feeds_after (take span.start text) ++ out
    → LaysOut w i text span bytes
lays_out w i text span out bytes u h l o e = record {
  out = out;
  output = o;
  stands = λ whole is_whole. stands_in_output w i text span.start (span.end - span.start) out u
      is_whole.accepted h.first (pieces_of text span h l) o whole is_whole;
  after_feeds = e;
}

-- the text with the edit applied is accepted and has the list of the text
pub edit_alike : (w : ℕ) (i : ℤ) (text : List ℕ) (range span : Span) (bytes : List ℕ) → IsUtf8 text
    → Accepted text → IsPartOf text span → IsTouchedSpan text range span
    → LaysOutPolicies w i text span bytes → Alike text (edited text span bytes)
edit_alike w i text range span bytes u a part t (inl (e, n)) =
    let same : text ≡ edited text span bytes =
    sym (take-append-drop span.start text) ∙ (ap (λ k. take span.start text ++ drop k text) e
    ∙ ap (λ z. take span.start text ++ (z ++ drop span.end text)) (sym n)) in
    subst (Alike text) same (same_alike text a)
edit_alike w i text range span bytes u a part t (inr (l, k)) =
    let h = touched_pieces text range span t in
    let end : span.start + (span.end - span.start) ≡ span.end = omega (arith, l) in
    let alike = laid_out_alike w i text span.start (span.end - span.start) k.out a h.first
    (pieces_of text span h l)
    (IsUtf8-between text span.start span.end u part.order part.first part.last) k.output in
    subst (λ z. Alike text (take span.start text ++ (z ++ drop span.end text))) (sym k.after_feeds)
    (subst (λ n. Alike text (take span.start text
    ++ ((feeds_after (take span.start text) ++ k.out) ++ drop n text))) end alike)

pub have_equal_lists : (x y : List ℕ) → Alike x y → HaveEqualLists x y
have_equal_lists x y k = (k.left, k.right, k.is_left, k.is_right, equal_lists x y k)
