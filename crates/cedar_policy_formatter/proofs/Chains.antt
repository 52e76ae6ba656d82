-- The pieces of a text, one after another, and what is between them.
use Rattle.std.proofs.Common.{◌≡◌, ◌+◌, ℕ, List, [], ◌∷◌, ◌++◌, length, take, drop, refl, ap, sym, ◌∙◌, subst, arith, inl, inr}
use Rattle.std.specs.List.{sum_by}
use Rattle.std.proofs.lemmas.List.{drop-drop}
use Rattle.std.proofs.lemmas.List.Sums.{sum_by-cons}
use Rattle.cedar_reading.specs.Pieces.{IsPiece, IsFirstPiece}
use Rattle.cedar_reading.proofs.Scans.{piece_more}
use Rattle.cedar_cst.specs.PolicyReaders.{EndsPiece}
use Rattle.cedar_policy_formatter.specs.Pieces.{ArePieces, EachPiece}

-- ---- pieces one after another

dropped : (text : List ℕ) (p : List ℕ) (ps : List (List ℕ))
    → drop (sum_by length ps) (drop (length p) text) ≡ drop (sum_by length (p ∷ ps)) text
dropped text p ps = drop-drop (sum_by length ps) (length p) text
    ∙ ap (λ k. drop k text) (omega (arith, sum_by-cons length p ps))

pub chain_parts : (ps qs : List (List ℕ)) (text rest : List ℕ) → ArePieces (ps ++ qs) text rest
    → ArePieces ps text (drop (sum_by length ps) text)
    × ArePieces qs (drop (sum_by length ps) text) rest
chain_parts [] qs text rest s = (refl, s)
chain_parts (p ∷ ps) qs text rest s =
    let r = chain_parts ps qs (drop (length p) text) rest s.2 in (
      (s.0, s.1, subst (ArePieces ps (drop (length p) text)) (dropped text p ps) r.0),
      subst (λ z. ArePieces qs z rest) (dropped text p ps) r.1,
    )

pub chain_more : (ps : List (List ℕ)) (p text rest : List ℕ) → ArePieces ps text rest
    → IsFirstPiece rest (length p) → p ≡ take (length p) rest
    → ArePieces (ps ++ (p ∷ [])) text (drop (length p) rest)
chain_more [] p text rest s f e = (
  subst (λ z. IsFirstPiece z (length p)) (sym s) f,
  subst (λ z. p ≡ take (length p) z) (sym s) e,
  ap (drop (length p)) s,
)
chain_more (q ∷ ps) p text rest s f e =
    (s.0, s.1, chain_more ps p (drop (length q) text) rest s.2 f e)

-- consecutive pieces together are a piece
pub chain_piece : (p : List ℕ) (ps : List (List ℕ)) (text rest : List ℕ)
    → ArePieces (p ∷ ps) text rest → IsPiece text (sum_by length (p ∷ ps))
chain_piece p [] text rest s =
    let e : length p ≡ sum_by length (p ∷ []) = omega (arith, sum_by-cons length p []) in
    subst (IsPiece text) e s.0.piece
chain_piece p (q ∷ ps) text rest s =
    let e : length p + sum_by length (q ∷ ps) ≡ sum_by length (p ∷ (q ∷ ps)) =
    omega (arith, sum_by-cons length p (q ∷ ps)) in
    subst (IsPiece text) e (piece_more text (length p) (sum_by length (q ∷ ps)) s.0.piece
    (chain_piece q ps (drop (length p) text) rest s.2))

pub chain_place : (ps : List (List ℕ)) (text rest : List ℕ) → ArePieces ps text rest
    → EndsPiece text (sum_by length ps)
chain_place [] text rest s = inl refl
chain_place (p ∷ ps) text rest s = inr (chain_piece p ps text rest s)

-- what holds of each of the pieces holds of one more
pub each_more : (P : ℕ → ℕ → Type 0) (at : ℕ) (ps : List (List ℕ)) (p : List ℕ) → EachPiece P at ps
    → P (at + sum_by length ps) ((at + sum_by length ps) + length p)
    → EachPiece P at (ps ++ (p ∷ []))
each_more P at [] p e h =
    let z : at + 0 ≡ at = omega arith in (subst (λ k. P k (k + length p)) z h, tt)
each_more P at (q ∷ ps) p e h =
    let z : at + sum_by length (q ∷ ps) ≡ (at + length q) + sum_by length ps =
    omega (arith, sum_by-cons length q ps) in
    (e.0, each_more P (at + length q) ps p e.1 (subst (λ k. P k (k + length p)) z h))
