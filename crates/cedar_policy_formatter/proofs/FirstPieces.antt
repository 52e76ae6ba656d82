-- A first piece is one by itself.
use Rattle.std.proofs.Common.{◌≡◌, ◌+◌, ℕ, Bool, true, false, ◌||◌, List, [], ◌∷◌, length, take, refl, ap, arith, sym, subst}
use Rattle.std.specs.Prelude.{codes, if◌then◌else◌}
use Rattle.std.specs.List.{list_any}
use Rattle.std.proofs.lemmas.Bool.{or_parts}
use Rattle.std.proofs.lemmas.List.{length-take-le, take_all}
use Rattle.cedar_tokens.specs.Units.{is_token}
use Rattle.cedar_tokens.specs.Split.{SplitsInto}
use Rattle.cedar_tokens.proofs.Scanning.{split_unique}
use Rattle.cedar_reading.specs.Pieces.{IsPiece, IsFirstPiece, is_semicolon}
use Rattle.cedar_reading.proofs.Lexing.{no_semicolon}
use Rattle.cedar_reading.proofs.Lists.{piece_splits}
use Rattle.cedar_reading.proofs.Prefixes.{units_of, piece_alone, piece_inside}
use Rattle.cedar_writer.proofs.OnePolicy.{mark, semicolons, semicolons_append}

marked : (u : List ℕ) → is_semicolon u ≡ false → mark u ≡ 0
marked u h = ap (λ (b : Bool). if b then 1 else 0) h

none_counted : (us : List (List ℕ)) → list_any is_semicolon us ≡ false → semicolons us ≡ 0
none_counted [] h = refl
none_counted (u ∷ us) h =
    let p = or_parts (is_semicolon u) (list_any is_semicolon us) h in
    omega (arith, marked u p.0, none_counted us p.1)

none_found : (us : List (List ℕ)) → semicolons us ≡ 0 → list_any is_semicolon us ≡ false
none_found [] h = refl
none_found (u ∷ us) h = go (none_found us) (is_semicolon u) h
  where
    go : (semicolons us ≡ 0 → list_any is_semicolon us ≡ false) → (b : Bool)
        → (if b then 1 else 0) + semicolons us ≡ 0 → (b || list_any is_semicolon us) ≡ false
    go ih true h = absurd (omega (arith, h))
    go ih false h = ih (omega (arith, h))

line_counted : (us : List (List ℕ)) → list_any is_token us ≡ false → semicolons us ≡ 0
line_counted [] h = refl
line_counted (u ∷ us) h =
    let p = or_parts (is_token u) (list_any is_token us) h in
    omega (arith, marked u (no_semicolon u p.0), line_counted us p.1)

-- a piece has one `;` if and only if none comes before its last token
counted : {text : List ℕ} {n : ℕ} (p : IsPiece text n)
    → semicolons (units_of p) ≡ semicolons p.before + 1
counted p = let a = semicolons_append p.before (codes ";" ∷ p.line) in
    let b = line_counted p.line p.rest_of_line.no_token in
    omega (arith, a, b)

with_length : (text : List ℕ) (n k : ℕ) → k ≡ n → (p : IsPiece text n)
    → list_any is_semicolon p.before ≡ false → IsFirstPiece text k
with_length text n k e p h =
    subst (IsFirstPiece text) (sym e) (record { piece = p; first = h })

pub first_alone : (text : List ℕ) (n : ℕ) → IsFirstPiece text n
    → IsFirstPiece (take n text) (length (take n text))
first_alone text n p =
    let q = piece_alone text n p.piece in
    let long : length (take n text) ≡ n = length-take-le n text (piece_inside text n p.piece) in
    let own : SplitsInto (take n text) (units_of q) =
    subst (λ z. SplitsInto z (units_of q)) (take_all n (take n text) (omega (arith, long)))
    (piece_splits (take n text) n q) in
    let same : units_of q ≡ units_of p.piece =
    split_unique (take n text) (units_of q) (units_of p.piece) own (piece_splits text n p.piece) in
    let one = ap semicolons same in
    let a = counted q in
    let b = counted p.piece in
    let c = none_counted p.piece.before p.first in
    with_length (take n text) n (length (take n text)) long q
    (none_found q.before (omega (arith, one, a, b, c)))
