-- The commented tokens made from lexemes so far, and the lexemes that are left.
use Rattle.std.proofs.Common.{◌≡◌, ◌≤◌, ◌<◌, ◌-◌, ◌+◌, List, [], ◌∷◌, ℕ, zero, suc, length, drop, take, get_or, map, sym, ap, ◌∙◌, arith}
use Rattle.std.proofs.Math.Seq.{drop-cons}
use Rattle.std.proofs.lemmas.List.{take_all, drop_all, drop-drop, length-drop}
use Rattle.std.proofs.Math.Numerals.{add-one}
use Rattle.std.specs.List.{AllByRecursion}
use Rattle.std.specs.Str.{IsUtf8, IsCharBoundary}
use Rattle.cedar_tokens.specs.Units.{IsToken}
use Rattle.cedar_tokens.specs.TokenKinds.{kind_of}
use Rattle.cedar_tokens.specs.Inside.Between.{first_start, text_at, text_before}
use Rattle.cedar_tokens.specs.declared.token.Span.{Span}
use Rattle.cedar_tokens.specs.declared.token.WrappedToken.{WrappedToken}
use Rattle.cedar_tokens.proofs.Between.{ArePlaces, Between, between, first_boundary, Commented, commented_none}
use Rattle.cedar_reading.specs.Lexemes.{AreLexemes}
use Rattle.cedar_reading.specs.declared.lexeme.Lexeme.{Lexeme}

abbrev pub spans_of : List Lexeme → List Span
spans_of ls = map (λ l. l.span) ls

abbrev pub texts_of : List Lexeme → List (List ℕ)
texts_of ls = map (λ l. l.text.now) ls

-- the tokens are the first ones of the text, and these lexemes are the others
pub record Left (text : List ℕ) (tokens : List WrappedToken) (leading : List ℕ)
    (lexemes : List Lexeme) : Type 0 where
  pub so_far : Commented text tokens leading (spans_of lexemes)
  pub texts : texts_of lexemes ≡ map (text_at text) (spans_of lexemes)

-- the units of lexemes lie between their places
pub lexemes_between : (text : List ℕ) (lexemes : List Lexeme) → IsUtf8 text
    → (r : AreLexemes text lexemes) → Between text 0 r.units
lexemes_between text lexemes utf8 r = between r.units text 0 (omega arith) utf8 r.split

pub none_left : (text : List ℕ) (tokens : List WrappedToken) (leading : List ℕ)
    (lexemes : List Lexeme) → IsUtf8 text → AreLexemes text lexemes → tokens ≡ []
    → leading ≡ text_before text 0 (spans_of lexemes) → Left text tokens leading lexemes
none_left text tokens leading lexemes utf8 r n l =
    let b = lexemes_between text lexemes utf8 r in
    record {
      so_far = commented_none text r.units tokens leading (spans_of lexemes) r.split b r.places n l;
      texts = r.texts ∙ b.texts ∙ ap (map (text_at text)) (sym r.places);
    }

-- the next lexeme, and those after it
pub record Next (text : List ℕ) (tokens : List WrappedToken) (leading : List ℕ) (x : Lexeme)
    (rest : List Lexeme) : Type 0 where
  pub so_far : Commented text tokens leading (x.span ∷ spans_of rest)
  pub here : x.text.now ≡ text_at text x.span
  pub texts : texts_of rest ≡ map (text_at text) (spans_of rest)

next_of : (text : List ℕ) (tokens : List WrappedToken) (leading : List ℕ) (x : Lexeme)
    (rest : List Lexeme) → Left text tokens leading (x ∷ rest) → Next text tokens leading x rest
next_of text tokens leading x rest l =
    record { so_far = l.so_far; here = cc l.texts; texts = cc l.texts }

pub next_left : (text : List ℕ) (tokens : List WrappedToken) (leading : List ℕ)
    (lexemes : List Lexeme) (at : ℕ) (d : Lexeme) → Left text tokens leading (drop at lexemes)
    → at < length lexemes → Next text tokens leading (get_or lexemes at d) (drop (at + 1) lexemes)
next_left text tokens leading lexemes at d l h =
    let e : drop at lexemes ≡ get_or lexemes at d ∷ drop (at + 1) lexemes =
    rw add-one (drop-cons lexemes at d h) in
    next_of text tokens leading (get_or lexemes at d) (drop (at + 1) lexemes) (rw e at l)

-- a slice to the end
pub to_end : (lexemes : List Lexeme) (at : ℕ)
    → take (length lexemes - at) (drop at lexemes) ≡ drop at lexemes
to_end lexemes at =
    take_all (length lexemes - at) (drop at lexemes) (omega (arith, length-drop at lexemes))

pub after_last : (lexemes : List Lexeme) (at : ℕ) → length lexemes ≤ at
    → spans_of (drop at lexemes) ≡ []
after_last lexemes at h = ap spans_of (drop_all at lexemes h)

rest_places : (text : List ℕ) (lexemes : List Lexeme) → ArePlaces text (spans_of lexemes)
    → ArePlaces text (spans_of (drop 1 lexemes))
rest_places text [] h = tt
rest_places text (l ∷ ls) h = h.1

-- the text up to the lexeme after the next one can be cut out
pub boundary_after : (text : List ℕ) (tokens : List WrappedToken) (leading : List ℕ)
    (lexemes : List Lexeme) (at : ℕ) → Left text tokens leading (drop at lexemes)
    → IsCharBoundary text (first_start (length text) (spans_of (drop (at + 1) lexemes)))
boundary_after text tokens leading lexemes at l = rw (sym (drop-drop 1 at lexemes)) (first_boundary
    text (spans_of (drop 1 (drop at lexemes))) (rest_places text (drop at lexemes) l.so_far.places))

pub next_token : (text : List ℕ) (tokens : List WrappedToken) (leading : List ℕ)
    (lexemes : List Lexeme) (at : ℕ) (d : Lexeme) → Left text tokens leading (drop at lexemes)
    → at < length lexemes → IsToken (get_or lexemes at d).text.now
next_token text tokens leading lexemes at d l h =
    let n = next_left text tokens leading lexemes at d l h in
    rw n.here n.so_far.places.0.token

-- the kind of a lexeme
pub lexeme_kind : (lexemes : List Lexeme) (at : ℕ) (d : Lexeme)
    → AllByRecursion (λ l. l.kind ≡ kind_of l.text.now) lexemes → at < length lexemes
    → (get_or lexemes at d).kind ≡ kind_of (get_or lexemes at d).text.now
lexeme_kind [] at d h l = absurd (omega (arith, l))
lexeme_kind (x ∷ xs) zero d h l = h.0
lexeme_kind (x ∷ xs) (suc at) d h l = lexeme_kind xs at d h.1 (omega (arith, l))
