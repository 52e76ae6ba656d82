-- The units of pieces.
use Rattle.std.proofs.Common.{◌≡◌, ℕ, zero, suc, ◌+◌, List, [], ◌∷◌, ◌++◌, replicate, refl, sym, ap, ◌∙◌, append_assoc, append-nil}
use Rattle.std.specs.List.{concat, flat_map}
use Rattle.std.proofs.lemmas.List.{replicate-append-replicate}
use Rattle.std.proofs.lemmas.List.Folds.{concat-append}
use Rattle.cedar_tokens.specs.Bytes.{line_feed, space_character}
use Rattle.cedar_layout.specs.Layout.{Piece, written, flat_space, flat_nothing, broken, print}
use Rattle.cedar_print.specs.Clean.{space, feed, units_of}

concat_spaces : (n : ℕ) → concat (replicate n space) ≡ replicate n space_character
concat_spaces zero = refl
concat_spaces (suc n) = ap (λ xs. space_character ∷ xs) (concat_spaces n)

pub concat_break : (n : ℕ)
    → concat (feed ∷ replicate n space) ≡ line_feed ∷ replicate n space_character
concat_break n = ap (λ xs. line_feed ∷ xs) (concat_spaces n)

units_print : (p : Piece) → concat (units_of p) ≡ print p
units_print (written s) = append-nil s
units_print flat_space = refl
units_print flat_nothing = refl
units_print (broken i) = concat_break i

-- the units of pieces are the text that they print
pub concat_units : (ps : List Piece) → concat (flat_map units_of ps) ≡ flat_map print ps
concat_units [] = refl
concat_units (p ∷ ps) = concat-append (units_of p) (flat_map units_of ps)
    ∙ ap (λ xs. xs ++ concat (flat_map units_of ps)) (units_print p)
    ∙ ap (λ xs. print p ++ xs) (concat_units ps)

-- a break and spaces after it are written
pub break_written : (out mid new : List ℕ) (i n : ℕ)
    → mid ≡ out ++ line_feed ∷ replicate i space_character
    → new ≡ mid ++ replicate n space_character
    → new ≡ out ++ concat (feed ∷ replicate (i + n) space)
break_written out mid new i n e f =
    let more = replicate-append-replicate i n space_character in
    f ∙ ap (λ xs. xs ++ replicate n space_character) e
    ∙ append_assoc out (line_feed ∷ replicate i space_character) (replicate n space_character)
    ∙ ap (λ xs. out ++ line_feed ∷ xs) more ∙ ap (λ xs. out ++ xs) (sym (concat_break (i + n)))
