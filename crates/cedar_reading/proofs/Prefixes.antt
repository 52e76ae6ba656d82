-- A piece of a text is a piece of each front of the text that ends with a further piece.
use Rattle.std.proofs.Common.{◌≡◌, ◌≤◌, ◌<◌, ◌+◌, ℕ, List, [], ◌∷◌, ◌++◌, length, take, drop, ap, sym, ◌∙◌, subst, arith, inl, inr}
use Rattle.std.specs.Prelude.{codes, ◌⊎◌}
use Rattle.std.specs.List.{sum_by, concat}
use Rattle.std.proofs.Math.Seq.{take-append-add, take-append_seam}
use Rattle.std.proofs.lemmas.List.{take-append-drop, drop-take, drop_all, length-append, length-take-le, append-nil}
use Rattle.std.proofs.lemmas.List.Sums.{sum_by-append, sum_by-cons}
use Rattle.cedar_tokens.specs.Units.{IsFirstUnit}
use Rattle.cedar_tokens.specs.Split.{Scans}
use Rattle.cedar_tokens.proofs.Scanning.{empty_begins_none}
use Rattle.cedar_tokens.proofs.UnitsSoFar.{scans_concat, concat_length}
use Rattle.cedar_laws.proofs.Scanned.{first_within}
use Rattle.cedar_laws.proofs.Spaces.{scans_shorter}
use Rattle.cedar_reading.specs.Pieces.{IsPiece, BeginsNoBlank, EndInFeed, HaveNoFeed}

-- the units of a piece
abbrev pub units_of : {text : List ℕ} {n : ℕ} → IsPiece text n → List (List ℕ)
units_of p = p.before ++ (codes ";" ∷ p.line)

-- a piece has at least one byte
pub piece_positive : (text : List ℕ) (n : ℕ) → IsPiece text n → 0 < n
piece_positive text n p = omega (
  arith,
  p.place,
  sum_by-append length p.before (codes ";" ∷ p.line),
  sum_by-cons length (codes ";") p.line,
)

-- and lies within the text
pub piece_inside : (text : List ℕ) (n : ℕ) → IsPiece text n → n ≤ length text
piece_inside text n p =
    let us = units_of p in
    omega (
      arith,
      p.place,
      concat_length us,
      ap length (scans_concat us text (drop n text) p.scans),
      length-append (concat us) (drop n text),
    )

-- the text without what follows n further bytes
abbrev pub through : List ℕ → ℕ → ℕ → List ℕ
through text at n = take (at + n) text

pub through_after : (text : List ℕ) (at n : ℕ) → drop at (through text at n) ≡ take n (drop at text)
through_after text at n = drop-take at n text

-- a piece begins with a unit
first_of_piece : (us : List (List ℕ)) (c : List ℕ) (vs : List (List ℕ)) (text rest : List ℕ)
    → Scans (us ++ (c ∷ vs)) text rest
    → (u : List ℕ) × IsFirstUnit text u × (length u ≤ sum_by length (us ++ (c ∷ vs)))
first_of_piece [] c vs text rest s = (c, s.0, omega (arith, sum_by-cons length c vs))
first_of_piece (u ∷ us) c vs text rest s =
    (u, s.0, omega (arith, sum_by-cons length u (us ++ (c ∷ vs))))

first_in_piece : (text : List ℕ) (n : ℕ) → IsPiece text n
    → (u : List ℕ) × IsFirstUnit text u × (length u ≤ n)
first_in_piece text n p =
    let f = first_of_piece p.before (codes ";") p.line text (drop n text) p.scans in
    (f.0, f.1, omega (arith, f.2, p.place))

through_text : (text : List ℕ) (at n : ℕ) (p : IsPiece text at)
    → through text at n ≡ concat (units_of p) ++ take n (drop at text)
through_text text at n p =
    let us = units_of p in
    let l : at ≡ length (concat us) = p.place ∙ sym (concat_length us) in
    ap (λ k. take (k + n) text) l
    ∙ (ap (take (length (concat us) + n)) (scans_concat us text (drop at text) p.scans)
    ∙ take-append-add (concat us) (drop at text) n)

-- a front of the text that ends with a further piece begins with the same piece,
-- followed by that one
pub piece_before : (text : List ℕ) (at n : ℕ) → IsPiece text at → IsPiece (drop at text) n
    → take at (through text at n) ≡ take at text
piece_before text at n p q =
    let us = units_of p in
    let l : at ≡ length (concat us) = p.place ∙ sym (concat_length us) in
    ap (λ k. take k (through text at n)) l
    ∙ (ap (take (length (concat us))) (through_text text at n p)
    ∙ take-append_seam (concat us) (take n (drop at text)))
    ∙ sym (ap (λ k. take k text) l ∙ (ap (take (length (concat us)))
    (scans_concat us text (drop at text) p.scans) ∙ take-append_seam (concat us) (drop at text)))

pub piece_within : (text : List ℕ) (at n : ℕ) → IsPiece text at → IsPiece (drop at text) n
    → IsPiece (through text at n) at
piece_within text at n p q =
    let us = units_of p in
    let r = drop at text in
    let e : text ≡ concat us ++ r = scans_concat us text r p.scans in
    let long : Scans us (concat us ++ r) r = subst (λ z. Scans us z r) e p.scans in
    let scans : Scans us (concat us ++ (take n r ++ drop n r)) (take n r ++ drop n r) =
    subst (λ z. Scans us (concat us ++ z) z) (sym (take-append-drop n r)) long in
    let short : Scans us (concat us ++ take n r) (take n r) =
    scans_shorter us (take n r) (drop n r) scans in
    record {
      before = p.before;
      line = p.line;
      scans = subst (λ z. Scans us (through text at n) z) (sym (through_after text at n))
          (subst (λ z. Scans us z (take n r)) (sym (through_text text at n p)) short);
      place = p.place;
      rest_of_line = record { no_token = p.rest_of_line.no_token; ends = go p.rest_of_line.ends };
    }
  where
    first : (u : List ℕ) → IsFirstUnit (drop at text) u → IsFirstUnit (take n (drop at text)) u
    first u f =
        let r = drop at text in
        let v = first_in_piece r n q in
        first_within (take n r) (drop n r) u
        (subst (λ z. IsFirstUnit z u) (sym (take-append-drop n r)) f)
        (omega
        (arith, (v.1).longest u f.kind f.begins, v.2, length-take-le n r (piece_inside r n q)))

    go : EndInFeed p.line ⊎ (HaveNoFeed p.line × BeginsNoBlank (drop at text))
        → EndInFeed p.line ⊎ (HaveNoFeed p.line × BeginsNoBlank (drop at (through text at n)))
    go (inl e) = inl e
    go (inr (h, inl none)) =
        let v = first_in_piece (drop at text) n q in absurd (none v.0 (v.1).kind (v.1).begins)
    go (inr (h, inr (u, f, t))) = inr
        (h, inr (u, subst (λ z. IsFirstUnit z u) (sym (through_after text at n)) (first u f), t))

-- a piece is one of its own bytes
pub piece_alone : (text : List ℕ) (n : ℕ) → IsPiece text n → IsPiece (take n text) n
piece_alone text n p =
    let us = units_of p in
    let r = drop n text in
    let e : text ≡ concat us ++ r = scans_concat us text r p.scans in
    let l : n ≡ length (concat us) = p.place ∙ sym (concat_length us) in
    let front : take n text ≡ concat us ++ [] =
    ap (λ k. take k text) l ∙ (ap (take (length (concat us))) e ∙ take-append_seam (concat us) r)
    ∙ sym (append-nil (concat us)) in
    let none : drop n (take n text) ≡ [] =
    drop_all n (take n text) (omega (arith, length-take-le n text (piece_inside text n p))) in
    let short : Scans us (concat us ++ []) [] =
    scans_shorter us [] r (subst (λ z. Scans us z r) e p.scans) in
    record {
      before = p.before;
      line = p.line;
      scans = subst (λ z. Scans us (take n text) z) (sym none)
          (subst (λ z. Scans us z []) (sym front) short);
      place = p.place;
      rest_of_line = record {
        no_token = p.rest_of_line.no_token;
        ends =
            go none p.rest_of_line.ends;
      };
    }
  where
    go : drop n (take n text) ≡ []
        → EndInFeed p.line ⊎ (HaveNoFeed p.line × BeginsNoBlank (drop n text))
        → EndInFeed p.line ⊎ (HaveNoFeed p.line × BeginsNoBlank (drop n (take n text)))
    go none (inl e) = inl e
    go none (inr (h, b)) = inr (h, inl (rw none empty_begins_none))
