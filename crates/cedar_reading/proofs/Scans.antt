-- Pieces one after the other.
use Rattle.std.proofs.Common.{◌≡◌, ℕ, ◌+◌, List, ◌∷◌, ◌++◌, length, drop, sym, arith, append_assoc}
use Rattle.std.specs.Prelude.{codes}
use Rattle.std.proofs.lemmas.List.{drop-drop}
use Rattle.std.proofs.lemmas.List.Sums.{sum_by-append}
use Rattle.cedar_laws.proofs.Scanned.{scans_append}
use Rattle.cedar_reading.specs.Pieces.{IsPiece}

-- a piece, and a piece of what follows it, are a piece together
pub piece_more : (text : List ℕ) (at n : ℕ) → IsPiece text at → IsPiece (drop at text) n
    → IsPiece text (at + n)
piece_more text at n p q = record {
  before = front ++ q.before;
  line = q.line;
  scans = rw (shape, sym (drop-drop n at text))
      (scans_append front back text (drop at text) (drop n (drop at text)) p.scans q.scans);
  place = rw (shape, sum_by-append length front back) (omega (arith, p.place, q.place));
  rest_of_line = rw (sym (drop-drop n at text)) q.rest_of_line;
}
  where
    front : List (List ℕ)
    front = p.before ++ (codes ";" ∷ p.line)

    back : List (List ℕ)
    back = q.before ++ (codes ";" ∷ q.line)

    shape : (front ++ q.before) ++ (codes ";" ∷ q.line) ≡ front ++ back
    shape = append_assoc front q.before (codes ";" ∷ q.line)
