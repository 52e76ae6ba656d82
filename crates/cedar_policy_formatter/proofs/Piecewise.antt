-- A text is laid out policy by policy: what is written of its pieces so far.
use Rattle.std.proofs.Common.{◌≡◌, ◌+◌, ℕ, ℤ, Bool, true, false, List, [], ◌∷◌, ◌++◌, length, take, drop, ap, sym, ◌∙◌, subst, arith, inl, inr, append-nil, append_assoc}
use Rattle.std.specs.Prelude.{◌⊎◌, not, if◌then◌else◌}
use Rattle.std.proofs.lemmas.List.{length-take-le}
use Rattle.cedar_tokens.specs.Bytes.{line_feed}
use Rattle.cedar_tokens.specs.Listing.{comments}
use Rattle.cedar_tokens.specs.Split.{SplitsInto}
use Rattle.cedar_grammar.specs.Texts.{Accepted, only_tokens}
use Rattle.cedar_laws.specs.Canonical.{IsOutputOf}
use Rattle.cedar_laws.specs.Output.{closing_text, paragraphs}
use Rattle.cedar_reading.specs.Pieces.{IsPiece, HasNoPiece}
use Rattle.cedar_reading.proofs.Scans.{piece_more}
use Rattle.cedar_reading.proofs.Prefixes.{through, piece_inside, piece_before, piece_within, piece_alone, through_after}
use Rattle.cedar_reading.proofs.Accepted.{accepted_join}
use Rattle.cedar_reading.proofs.PieceRefusals.{rest_is_empty}
use Rattle.cedar_reading.specs.Tokens.{HasTokens}
use Rattle.cedar_cst.specs.PolicyReaders.{EndsPiece}
use Rattle.cedar_cst.proofs.Places.{accepted_parts, place_accepted}
use Rattle.cedar_cst.proofs.PartLaws.{append_not_nil}
use Rattle.cedar_policy_formatter.proofs.PieceOutputs.{outputs_join, outputs_close, closing_output}

-- out is what is written for the text's pieces up to the byte at:
-- nothing before the first, then their output
abbrev pub LaidOut : ℕ → ℤ → List ℕ → ℕ → List ℕ → Type 0
LaidOut w i text at out =
    ((at ≡ 0) × (out ≡ [])) ⊎ (IsPiece text at × IsOutputOf w i (take at text) out)

-- an output has bytes
output_is_some : (w : ℕ) (i : ℤ) (x y : List ℕ) → IsOutputOf w i x y → y ≡ [] → ⊥
output_is_some w i x y o e = append_not_nil (paragraphs o.output.texts) line_feed
    (closing_text o.list.closing) (sym o.output.written ∙ e)

tokens_of : (text : List ℕ) → Accepted text → HasTokens text
tokens_of text (f, a) = record { units = a.units; split = a.split; fitting = a.fitting }

-- whether a list is empty
abbrev pub TellsEmpty : Bool → List ℕ → Type 0
TellsEmpty true out = out ≡ []
TellsEmpty false out = out ≡ [] → ⊥

-- a layout has bytes, and so has the result of appending it
pub some_more : (w : ℕ) (i : ℤ) (text out more layout : List ℕ) → IsOutputOf w i text layout
    → more ≡ out ++ layout → TellsEmpty false more
some_more w i text out more layout o e n =
    output_is_some w i text layout o (no_end out layout (sym e ∙ n))
  where
    no_end : (xs ys : List ℕ) → xs ++ ys ≡ [] → ys ≡ []
    no_end [] ys h = h
    no_end (x ∷ xs) ys h = absurd cc

module _ (w : ℕ) (i : ℤ) (text : List ℕ) where
  pub laid_next : (at n : ℕ) (out z new : List ℕ) (empty : Bool) → TellsEmpty empty out
      → LaidOut w i text at out → IsPiece (drop at text) n
      → IsOutputOf w i (take n (drop at text)) z
      → new ≡ (out ++ (if not empty then line_feed ∷ [] else [])) ++ z
      → LaidOut w i text (at + n) new
  laid_next at n out z new true t (inl (b, e)) q o h =
      let p : IsPiece text n = subst (λ k. IsPiece (drop k text) n) b q in
      let first : new ≡ z = h ∙ ap (λ x. (x ++ []) ++ z) e in
      let same : n ≡ at + n = omega (arith, b) in
      subst (λ k. LaidOut w i text k new) same (inr (
        p,
        subst (λ x. IsOutputOf w i (take n text) x) (sym first)
            (subst (λ k. IsOutputOf w i (take n (drop k text)) z) b o),
      ))
  laid_next at n out z new false t (inl (b, e)) q o h = absurd (t e)
  laid_next at n out z new true t (inr (p, o)) q r h =
      absurd (output_is_some w i (take at text) out o t)
  laid_next at n out z new false t (inr (p, o)) q r h =
      let u = through text at n in
      let s : IsPiece u at = piece_within text at n p q in
      let front : take at u ≡ take at text = piece_before text at n p q in
      let back : drop at u ≡ take n (drop at text) = through_after text at n in
      let whole : (m : ℕ) × IsPiece (drop at u) m × (m ≡ length (drop at u)) = (
        n,
        subst (λ z. IsPiece z n) (sym back) (piece_alone (drop at text) n q),
        sym (ap length back ∙ length-take-le n (drop at text) (piece_inside (drop at text) n q)),
      ) in
      let a : IsOutputOf w i (take at u) out = subst (λ x. IsOutputOf w i x out) (sym front) o in
      let b : IsOutputOf w i (drop at u) z = subst (λ x. IsOutputOf w i x z) (sym back) r in
      let joined : new ≡ out ++ (line_feed ∷ z) = h ∙ append_assoc out (line_feed ∷ []) z in
      inr (
        piece_more text at n p q,
        subst (λ x. IsOutputOf w i u x) (sym joined)
            (outputs_join w i u at out z (accepted_join u at s a.accepted b.accepted) s whole a b),
      )

  -- a text is accepted if its rest is
  pub whole_accepted : (at : ℕ) (out : List ℕ) → LaidOut w i text at out → Accepted (drop at text)
      → Accepted text
  whole_accepted at out (inl (e, k)) a = subst (λ z. Accepted (drop z text)) e a
  whole_accepted at out (inr (p, o)) a = accepted_join text at p o.accepted a

  laid_last : (at : ℕ) (out new : List ℕ) (empty : Bool) (us : List (List ℕ)) → TellsEmpty empty out
      → LaidOut w i text at out → Accepted text → SplitsInto (drop at text) us → only_tokens us ≡ []
      → new ≡ (out ++ (if empty then line_feed ∷ [] else [])) ++ closing_text (comments
      (drop at text)) → IsOutputOf w i text new
  laid_last at out new true us t (inl (b, e)) a s n h =
      let all : drop at text ≡ text = ap (λ k. drop k text) b in
      let first : new ≡ line_feed ∷ closing_text (comments text) =
      h ∙ (ap (λ x. (x ++ (line_feed ∷ [])) ++ closing_text (comments (drop at text))) e
      ∙ ap (λ x. line_feed ∷ closing_text (comments x)) all) in
      subst (λ x. IsOutputOf w i text x) (sym first)
      (closing_output w i text us a (subst (λ x. SplitsInto x us) all s) n)
  laid_last at out new false us t (inl (b, e)) a s n h = absurd (t e)
  laid_last at out new true us t (inr (p, o)) a s n h =
      absurd (output_is_some w i (take at text) out o t)
  laid_last at out new false us t (inr (p, o)) a s n h =
      let more : new ≡ out ++ closing_text (comments (drop at text)) =
      h ∙ ap (λ z. z ++ closing_text (comments (drop at text))) (append-nil out) in
      subst (λ x. IsOutputOf w i text x) (sym more) (outputs_close w i text at us out a p s n o)

  -- after the last piece come the closing comments
  pub laid_ends : (at : ℕ) (rest out new : List ℕ) (empty : Bool) → rest ≡ drop at text
      → (HasTokens rest → HasNoPiece rest) → Accepted rest → TellsEmpty empty out
      → LaidOut w i text at out
      → new ≡ (out ++ (if empty then line_feed ∷ [] else [])) ++ closing_text (comments rest)
      → IsOutputOf w i text new
  laid_ends at rest out new empty r n a t l h =
      let left = rest_is_empty rest (n (tokens_of rest a)) a in
      laid_last at out new empty left.0 t l (whole_accepted at out l (subst Accepted r a))
      (subst (λ z. SplitsInto z left.0) r left.1) left.2 (h ∙ ap
      (λ z. (out ++ (if empty then line_feed ∷ [] else [])) ++ closing_text (comments z)) r)

  -- ---- refusals

  ends_of : (at : ℕ) (out : List ℕ) → LaidOut w i text at out → EndsPiece text at
  ends_of at out (inl (e, k)) = inl e
  ends_of at out (inr (p, o)) = inr p

  -- a text is not accepted where a piece of it is not
  pub piece_refused : (at n : ℕ) (rest piece out : List ℕ) → rest ≡ drop at text → piece ≡ take n rest
      → IsPiece rest n → LaidOut w i text at out → ¬ (Accepted piece) → ¬ (Accepted text)
  piece_refused at n rest piece out r b p l h = λ a.
      h (subst Accepted (sym b) (accepted_parts rest n p
      (subst Accepted (sym r) (place_accepted text at (ends_of at out l) a).1)).0)

  pub rest_refused : (at : ℕ) (rest out : List ℕ) → rest ≡ drop at text → LaidOut w i text at out
      → ¬ (Accepted rest) → ¬ (Accepted text)
  rest_refused at rest out r l h = λ a.
      h (subst Accepted (sym r) (place_accepted text at (ends_of at out l) a).1)
