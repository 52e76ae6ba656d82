-- The places between the pieces of an accepted text.
use Rattle.std.proofs.Common.{◌≡◌, ℕ, List, [], ◌∷◌, ◌++◌, take, drop, refl, ap, sym, ◌∙◌, subst, arith, inl, inr, append_assoc, append-nil}
use Rattle.std.specs.Prelude.{codes}
use Rattle.std.specs.List.{list_any, concat, AllByRecursion}
use Rattle.std.specs.Str.{IsUtf8, IsCharBoundary}
use Rattle.std.proofs.lemmas.List.Elements.{filter-append}
use Rattle.std.proofs.lemmas.Str.{IsCharBoundary-from_take, IsCharBoundary-from_drop}
use Rattle.cedar_tokens.specs.Units.{is_token}
use Rattle.cedar_tokens.proofs.Lists.{All-parts}
use Rattle.cedar_tokens.proofs.UnitsSoFar.{scans_concat}
use Rattle.cedar_grammar.specs.KindGrammar.{G}
use Rattle.cedar_grammar.specs.Numbers.{is_too_large}
use Rattle.cedar_grammar.specs.Texts.{greatest_depth, only_tokens, Accepted}
use Rattle.cedar_tokens.specs.TokenKinds.{kind_of}
use Rattle.cedar_grammar.proofs.Texts.Accepted.{is_accepted, kinds_of}
use Rattle.cedar_laws.proofs.Spaces.{units_utf8, concat_utf8}
use Rattle.cedar_reading.specs.Pieces.{IsPiece}
use Rattle.cedar_reading.proofs.Accepted.{accepted_empty}
use Rattle.cedar_reading.proofs.Lists.{piece_units, piece_splits}
use Rattle.cedar_reading.proofs.Prefixes.{units_of, piece_inside}
use Rattle.cedar_reading.proofs.PieceRefusals.{fit_parts, piece_tokens}
use Rattle.cedar_reading.proofs.Sequences.{list_parts}
use Rattle.cedar_cst.specs.PolicyReaders.{EndsPiece}

-- a piece of an accepted text is accepted, and so is what follows it
pub accepted_parts : (text : List ℕ) (n : ℕ) → IsPiece text n → Accepted text
    → Accepted (take n text) × Accepted (drop n text)
accepted_parts text n p (f, a) =
    let u = piece_units text n a.units p a.split in
    let fits = fit_parts (units_of p) u.0 (ap (list_any is_too_large) (sym u.1) ∙ a.fitting) in
    let tokens : only_tokens a.units ≡ only_tokens p.before ++ (codes ";" ∷ only_tokens u.0) =
    ap only_tokens u.1 ∙ (filter-append is_token (units_of p) u.0
    ∙ (ap (λ z. z ++ only_tokens u.0) (piece_tokens text n p)
    ∙ append_assoc (only_tokens p.before) (codes ";" ∷ []) (only_tokens u.0))) in
    let q =
    list_parts kind_of greatest_depth f (only_tokens p.before) (codes ";") (only_tokens u.0) refl
    (subst (λ z. G kind_of greatest_depth f z) tokens (kinds_of a)) in (
      (
        q.0.0,
        is_accepted (take n text) q.0.0 (units_of p) u.2 fits.0
            (subst (λ z. G kind_of greatest_depth q.0.0 z) (sym (piece_tokens text n p)) q.0.1),
      ),
      (q.1.0, is_accepted (drop n text) q.1.0 u.0 u.3 fits.1 q.1.1),
    )

-- what comes before a place of an accepted text is accepted, and so is what follows it
pub place_accepted : (text : List ℕ) (n : ℕ) → EndsPiece text n → Accepted text
    → Accepted (take n text) × Accepted (drop n text)
place_accepted text n (inl e) a = (
  subst (λ k. Accepted (take k text)) (sym e) (accepted_empty [] [] refl refl refl),
  subst (λ k. Accepted (drop k text)) (sym e) a,
)
place_accepted text n (inr p) a = accepted_parts text n p a

-- a character begins there
pub place_boundary : (text : List ℕ) (n : ℕ) → EndsPiece text n → IsUtf8 text → Accepted text
    → IsCharBoundary text n
place_boundary text n (inl e) u a =
    subst (IsCharBoundary text) (sym e) (IsCharBoundary-from_drop text 0 (omega arith) u)
place_boundary text n (inr p) u (f, a) =
    let q = piece_units text n a.units p a.split in
    let front = (All-parts IsUtf8 (units_of p) q.0
    (subst (λ z. AllByRecursion IsUtf8 z) q.1 (units_utf8 a.units text u a.split))).0 in
    let bytes : take n text ≡ concat (units_of p) =
    scans_concat (units_of p) (take n text) [] (piece_splits text n p)
    ∙ append-nil (concat (units_of p)) in
    IsCharBoundary-from_take text n u (piece_inside text n p)
    (subst IsUtf8 (sym bytes) (concat_utf8 (units_of p) front))
