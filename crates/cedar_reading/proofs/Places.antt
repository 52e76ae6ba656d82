-- The places of lexemes.
use Rattle.std.proofs.Common.{◌<◌, ◌+◌, ℕ, zero, suc, List, [], ◌∷◌, length, drop, get_or, arith, add-one}
use Rattle.std.specs.Str.{IsUtf8}
use Rattle.cedar_tokens.specs.Inside.Between.{first_start}
use Rattle.cedar_tokens.proofs.Between.{IsPlace, ArePlaces}
use Rattle.cedar_reading.specs.Lexemes.{AreLexemes}
use Rattle.cedar_reading.specs.declared.lexeme.Lexeme.{Lexeme}
use Rattle.cedar_reading.proofs.Commenting.{spans_of, lexemes_between}

pub all_places : (text : List ℕ) (ls : List Lexeme) → IsUtf8 text → AreLexemes text ls
    → ArePlaces text (spans_of ls)
all_places text ls utf8 r = rw r.places (lexemes_between text ls utf8 r).places

pub places_drop : (text : List ℕ) (ls : List Lexeme) (at : ℕ) → ArePlaces text (spans_of ls)
    → ArePlaces text (spans_of (drop at ls))
places_drop text ls zero p = p
places_drop text [] (suc at) p = tt
places_drop text (l ∷ ls) (suc at) p = places_drop text ls at p.1

place_from : (text : List ℕ) (ls : List Lexeme) (at : ℕ) (d : Lexeme) → ArePlaces text (spans_of ls)
    → at < length ls
    → IsPlace text (get_or ls at d).span (first_start (length text) (spans_of (drop (suc at) ls)))
place_from text [] at d p h = absurd (omega (arith, h))
place_from text (l ∷ ls) zero d p h = p.0
place_from text (l ∷ ls) (suc at) d p h = place_from text ls at d p.1 (omega (arith, h))

-- the place of the lexeme at an index
pub place_at : (text : List ℕ) (ls : List Lexeme) (at : ℕ) (d : Lexeme)
    → ArePlaces text (spans_of ls) → at < length ls
    → IsPlace text (get_or ls at d).span (first_start (length text) (spans_of (drop (at + 1) ls)))
place_at text ls at d p h = rw add-one (place_from text ls at d p h)
