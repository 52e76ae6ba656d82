-- The tokens so far, and those of the lexemes that are left.
use Rattle.std.proofs.Common.{◌≡◌, ◌≤◌, ◌<◌, ◌+◌, ℕ, zero, suc, List, [], ◌∷◌, ◌++◌, length, map, drop, get_or, refl, sym, ap, ◌∙◌}
use Rattle.std.proofs.lemmas.List.{append_assoc, append-nil, drop_all, drop_more}
use Rattle.std.specs.List.{AllByRecursion}
use Rattle.std.specs.Str.{IsUtf8, trim}
use Rattle.cedar_tokens.specs.TokenKinds.{kind_of}
use Rattle.cedar_tokens.specs.Listing.{Decorated, Listing, IsListing, listing, decorate, comments}
use Rattle.cedar_tokens.specs.Inside.Newlines.{before_newline, after_newline}
use Rattle.cedar_tokens.specs.Inside.Between.{text_at, text_before, texts_between}
use Rattle.cedar_reading.specs.Lexemes.{AreLexemes}
use Rattle.cedar_reading.specs.declared.lexeme.Lexeme.{Lexeme}
use Rattle.cedar_reading.proofs.Commenting.{spans_of, texts_of, lexemes_between}
use Rattle.cedar_reading.specs.Inside.Lexed.{gap_after}

-- what lexemes come to, where this text precedes the first or closes the text
abbrev pub left_of : List ℕ → List ℕ → List Lexeme → Listing
left_of text leading ls = decorate leading (texts_between text (spans_of ls))

-- what all lexemes of a text come to
abbrev pub whole : List ℕ → List Lexeme → Listing
whole text ls = left_of text (text_before text 0 (spans_of ls)) ls

-- this is the list of the text
pub whole_value : (text : List ℕ) (ls : List Lexeme) → IsUtf8 text → (r : AreLexemes text ls)
    → whole text ls ≡ listing r.units
unfolding listing
whole_value text ls utf8 r =
    let b = lexemes_between text ls utf8 r in rw (r.places, b.first, b.tokens) refl

-- a lexeme is the text at its place, and of its kind
pub record IsLexed (text : List ℕ) (l : Lexeme) : Type 0 where
  pub here : l.text.now ≡ text_at text l.span
  pub kind : l.kind ≡ kind_of l.text.now

abbrev pub AreLexed : List ℕ → List Lexeme → Type 0
AreLexed text ls = AllByRecursion (IsLexed text) ls

each_lexed : (text : List ℕ) (ls : List Lexeme) → texts_of ls ≡ map (text_at text) (spans_of ls)
    → AllByRecursion (λ l. l.kind ≡ kind_of l.text.now) ls → AreLexed text ls
each_lexed text [] e k = tt
each_lexed text (l ∷ ls) e k = (record { here = cc e; kind = k.0 }, each_lexed text ls (cc e) k.1)

pub are_lexed : (text : List ℕ) (ls : List Lexeme) → IsUtf8 text → AreLexemes text ls
    → AreLexed text ls
are_lexed text ls utf8 r =
    let b = lexemes_between text ls utf8 r in
    each_lexed text ls (r.texts ∙ b.texts ∙ ap (map (text_at text)) (sym r.places)) r.kinds

pub lexed_drop : (text : List ℕ) (ls : List Lexeme) (at : ℕ) → AreLexed text ls
    → AreLexed text (drop at ls)
lexed_drop text ls zero h = h
lexed_drop text [] (suc at) h = tt
lexed_drop text (l ∷ ls) (suc at) h = lexed_drop text ls at h.1

-- the token of the first of these lexemes, between its comments
abbrev pub token_of : List ℕ → List ℕ → Lexeme → List Lexeme → Decorated
token_of text leading l ls = record {
  text = l.text.now;
  leading = comments leading;
  trailing = trim (before_newline (gap_after text (spans_of ls)));
}

-- what precedes the next one
abbrev pub ahead_of : List ℕ → List Lexeme → List ℕ
ahead_of text ls = after_newline (gap_after text (spans_of ls))

pub left_more : (text leading : List ℕ) (l : Lexeme) (ls : List Lexeme) → IsLexed text l
    → left_of text leading (l ∷ ls) ≡ record {
      tokens = token_of text leading l (l ∷ ls) ∷ (left_of text (ahead_of text (l ∷ ls)) ls).tokens;
      closing = (left_of text (ahead_of text (l ∷ ls)) ls).closing;
    }
unfolding decorate
left_more text leading l ls h = rw h.here refl

pub left_none : (text leading : List ℕ) → left_of text leading []
    ≡ record { tokens = []; closing = comments leading }
unfolding decorate
left_none text leading = refl

-- ---- all tokens

-- the tokens so far, and these lexemes are left
pub record Left (text : List ℕ) (all : List Lexeme) (tokens : List Decorated) (leading : List ℕ)
    (ls : List Lexeme) : Type 0 where
  pub tokens_are : tokens ++ (left_of text leading ls).tokens ≡ (whole text all).tokens
  pub closing_is : (left_of text leading ls).closing ≡ (whole text all).closing

pub left_first : (text : List ℕ) (all : List Lexeme) (tokens : List Decorated) (leading : List ℕ)
    → tokens ≡ [] → leading ≡ text_before text 0 (spans_of all) → Left text all tokens leading all
left_first text all tokens leading e f =
    rw (e, f) (record { tokens_are = refl; closing_is = refl })

next_left : (text : List ℕ) (all : List Lexeme) (tokens new : List Decorated)
    (leading ahead : List ℕ) (l : Lexeme) (ls : List Lexeme) → Left text all tokens leading (l ∷ ls)
    → IsLexed text l → new ≡ tokens ++ token_of text leading l (l ∷ ls) ∷ []
    → ahead ≡ ahead_of text (l ∷ ls) → Left text all new ahead ls
next_left text all tokens new leading ahead l ls r h n a =
    let m = left_more text leading l ls h in
    rw (n, a) (record {
      tokens_are = append_assoc tokens (token_of text leading l (l ∷ ls) ∷ [])
          (left_of text (ahead_of text (l ∷ ls)) ls).tokens
          ∙ ap (λ (z : Listing). tokens ++ z.tokens) (sym m) ∙ r.tokens_are;
      closing_is = ap (λ (z : Listing). z.closing) (sym m) ∙ r.closing_is;
    })

pub left_step : (text : List ℕ) (all : List Lexeme) (tokens new : List Decorated)
    (leading ahead : List ℕ) (at : ℕ) (d : Lexeme) → Left text all tokens leading (drop at all)
    → at < length all → AreLexed text all
    → new ≡ tokens ++ token_of text leading (get_or all at d) (drop at all) ∷ []
    → ahead ≡ ahead_of text (drop at all) → Left text all new ahead (drop (at + 1) all)
left_step text all tokens new leading ahead at d r i h n a =
    let e = drop_more all at d i in
    next_left text all tokens new leading ahead (get_or all at d) (drop (at + 1) all) (rw e at r)
    ((rw e at (lexed_drop text all at h)).0) (rw e at n) (rw e at a)

pub left_all : (text : List ℕ) (all : List Lexeme) (tokens : List Decorated) (leading : List ℕ)
    (at : ℕ) → Left text all tokens leading (drop at all) → length all ≤ at → IsUtf8 text
    → AreLexemes text all
    → IsListing text (record { tokens = tokens; closing = comments leading })
left_all text all tokens leading at r i utf8 x =
    let e : left_of text leading (drop at all) ≡ record { tokens = []; closing = comments leading } =
    ap (left_of text leading) (drop_all at all i) ∙ left_none text leading in
    let t : tokens ≡ (whole text all).tokens =
    sym (append-nil tokens) ∙ ap (λ (z : Listing). tokens ++ z.tokens) (sym e) ∙ r.tokens_are in
    let k : comments leading ≡ (whole text all).closing =
    ap (λ (z : Listing). z.closing) (sym e) ∙ r.closing_is in
    record { units = x.units; split = x.split; value = rw (t, k) (whole_value text all utf8 x) }
