-- What is laid out of a text is found in its output.
use Rattle.std.proofs.Common.{◌≡◌, ℕ, ℤ, List, [], ◌∷◌, ◌++◌, take, drop, map, refl, ap, sym, ◌∙◌, subst, inl, inr, append_assoc}
use Rattle.std.specs.Str.{IsUtf8}
use Rattle.std.proofs.lemmas.Str.{IsUtf8-take, IsUtf8-drop}
use Rattle.cedar_tokens.specs.Bytes.{line_feed}
use Rattle.cedar_tokens.specs.Listing.{Decorated, Listing, by_value, comments}
use Rattle.cedar_tokens.proofs.Scanning.{listing_unique}
use Rattle.cedar_grammar.specs.Texts.{Accepted, only_tokens}
use Rattle.cedar_grammar.proofs.Texts.Listings.{listing_texts}
use Rattle.cedar_laws.specs.Canonical.{IsOutputOf, plain_listing}
use Rattle.cedar_laws.specs.Output.{closing_text}
use Rattle.cedar_laws.proofs.CanonicalForm.{accepted_has_output, outputs_tell}
use Rattle.cedar_reading.specs.Pieces.{IsPiece}
use Rattle.cedar_reading.proofs.Lists.{lists_follow, piece_ends}
use Rattle.cedar_policy_formatter.proofs.PieceOutputs.{outputs_follow, outputs_close}
use Rattle.cedar_cst.specs.PolicyReaders.{EndsPiece}
use Rattle.cedar_policy_formatter.specs.RangeEdits.{StandsInOutput}
use Rattle.cedar_cst.proofs.Places.{place_accepted, place_boundary}

-- a text has one output
one_output : (w : ℕ) (i : ℤ) (x y z : List ℕ) → IsUtf8 x → IsOutputOf w i x y
    → IsOutputOf w i x z → y ≡ z
one_output w i x y z u a b = (outputs_tell w i x x y z u u a b).1
    (ap (λ l. by_value (plain_listing l)) (listing_unique x a.list b.list a.is_list b.is_list))

-- the output of a text whose first piece has this output
abbrev BeginsOutput : ℕ → ℤ → List ℕ → List ℕ → Type 0
BeginsOutput w i text out = (back : List ℕ) × IsOutputOf w i text (out ++ back)

begins_output : (w : ℕ) (i : ℤ) (text : List ℕ) (n : ℕ) (out : List ℕ) → IsUtf8 text → Accepted text
    → IsPiece text n → IsOutputOf w i (take n text) out → BeginsOutput w i text out
begins_output w i text n out u a p o =
    let b = accepted_has_output w i (drop n text) (IsUtf8-drop text n u
    (place_boundary text n (inr p) u a)) (place_accepted text n (inr p) a).1 in
    go b.0 b.1 b.1.list.tokens refl
  where
    go : (z : List ℕ) (b : IsOutputOf w i (drop n text) z) (ts : List Decorated)
        → b.list.tokens ≡ ts → BeginsOutput w i text out
    go z b [] e =
        let none : only_tokens b.is_list.units ≡ [] = sym (listing_texts b.is_list.units)
        ∙ ap (λ (l : Listing). map (λ (t : Decorated). t.text) l.tokens) (sym b.is_list.value)
        ∙ ap (map (λ (t : Decorated). t.text)) e in (
          closing_text (comments (drop n text)),
          outputs_close w i text n b.is_list.units out a p b.is_list.split none o,
        )
    go z b (t ∷ ts) e = (line_feed ∷ z, outputs_follow w i text n out z a p o b (λ h. absurd cc))

has_last : (ts us : List Decorated) (t : Decorated) → (ts ++ (t ∷ [])) ++ us ≡ [] → ⊥
has_last [] us t h = absurd cc
has_last (x ∷ ts) us t h = absurd cc

-- pieces laid out are found in the output of the text
pub stands_in_output : (w : ℕ) (i : ℤ) (text : List ℕ) (start len : ℕ) (out : List ℕ) → IsUtf8 text
    → Accepted text → EndsPiece text start → IsPiece (drop start text) len
    → IsOutputOf w i (take len (drop start text)) out → StandsInOutput w i text out
stands_in_output w i text start len out u a s p o whole h = go s
  where
    rest_utf8 : IsUtf8 (drop start text)
    rest_utf8 = IsUtf8-drop text start u (place_boundary text start s u a)

    rest : BeginsOutput w i (drop start text) out
    rest =
        begins_output w i (drop start text) len out rest_utf8 (place_accepted text start s a).1 p o

    has_tokens : (z : List ℕ) (b : IsOutputOf w i (drop start text) z) → b.list.tokens ≡ [] → ⊥
    has_tokens z b none =
        let e = piece_ends (drop start text) len o.list p o.is_list in
        let v = accepted_has_output w i (drop len (drop start text))
        (IsUtf8-drop (drop start text) len rest_utf8
        (place_boundary (drop start text) len (inr p) rest_utf8 (place_accepted text start s a).1))
        (place_accepted (drop start text) len (inr p) (place_accepted text start s a).1).1 in
        let all = lists_follow (drop start text) len o.list v.1.list p o.is_list v.1.is_list in
        let same = listing_unique (drop start text) b.list
        (record { tokens = o.list.tokens ++ v.1.list.tokens; closing = v.1.list.closing })
        b.is_list all in
        has_last e.1.0 v.1.list.tokens e.1.1 (ap (λ z. z ++ v.1.list.tokens) (sym e.1.2)
        ∙ (sym (ap (λ (l : Listing). l.tokens) same) ∙ none))

    go : EndsPiece text start → (front back : List ℕ) × (whole ≡ front ++ (out ++ back))
    go (inl e) = (
      [],
      rest.0,
      one_output w i text whole (out ++ rest.0) u h
          (subst (λ k. IsOutputOf w i (drop k text) (out ++ rest.0)) e rest.1),
    )
    go (inr q) =
        let b = accepted_has_output w i (take start text) (IsUtf8-take text start u
        (place_boundary text start s u a)) (place_accepted text start s a).0 in
        let joined = outputs_follow w i text start b.0 (out ++ rest.0) a q b.1 rest.1
        (has_tokens (out ++ rest.0) rest.1) in (
          b.0 ++ (line_feed ∷ []),
          rest.0,
          one_output w i text whole (b.0 ++ (line_feed ∷ (out ++ rest.0))) u h joined
              ∙ sym (append_assoc b.0 (line_feed ∷ []) (out ++ rest.0)),
        )
