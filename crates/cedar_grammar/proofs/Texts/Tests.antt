-- Tests of a token's kind as tests of its text.
use Rattle.std.proofs.Common.{◌≡◌, ℕ, Bool, true, false, cond, not, ◌&&◌, ◌||◌, ◌==◌, List, [], ◌∷◌, refl, ap, arith, sym, ◌∙◌}
use Rattle.std.specs.List.{list_all}
use Rattle.std.specs.Str.{bytes_eq}
use Rattle.std.specs.Char.{is_ascii_digit}
use Rattle.std.proofs.lemmas.Slice.Eq.{bytes_eq-Decides}
use Rattle.std.proofs.lemmas.Bool.Decides.{nat_tests}
use Rattle.std.proofs.lemmas.Bool.{or_left, or_right, and_parts, or_parts, not-true, both_ways, false_from_ne_true}
use Rattle.std.proofs.Math.Bool.{and-true, beq}
use Rattle.std.specs.Cmp.{booleans_Decides}
use Rattle.cedar_tokens.specs.Units.{IsToken, is_token, is_word, is_number, is_string, is_one_of, is_word_start, slots, punctuators}
use Rattle.cedar_tokens.proofs.Heads.{class, word, number, string, slot, punctuator, token_of, no_empty_token, one_of}
use Rattle.cedar_tokens.specs.declared.kind.Kind.{Kind}
use Rattle.cedar_tokens.specs.declared.kind.Kind.TheVariants as K
use Rattle.cedar_tokens.specs.Kinds.{is, is_any_word, is_ident}
use Rattle.cedar_tokens.specs.TokenKinds.{fixed_tokens, other_kind, kind_among, kind_of}
use Rattle.cedar_grammar.specs.Grammar.{reserved}
use Rattle.cedar_grammar.proofs.Booleans.{neither_first}
use Rattle.cedar_tokens.specs.Bytes.{quote}

-- ---- the table of tokens that have one text

abbrev pub texts_of : List (List ℕ × Kind) → List (List ℕ)
texts_of [] = []
texts_of (f ∷ fs) = f.0 ∷ texts_of fs

abbrev pub fixed_texts : List (List ℕ)
fixed_texts = texts_of fixed_tokens

-- the two tests agree on the table
abbrev pub agree_on : (Kind → Bool) → (List ℕ → Bool) → List (List ℕ × Kind) → Bool
agree_on p q [] = true
agree_on p q (f ∷ fs) = beq (p f.1) (q f.0) && agree_on p q fs

-- tests that agree on the table and on all other texts agree
pub agrees : (p : Kind → Bool) (q : List ℕ → Bool) (fs : List (List ℕ × Kind)) (t : List ℕ)
    → agree_on p q fs ≡ true
    → (is_one_of (texts_of fs) t ≡ false → p (other_kind t) ≡ q t) → p (kind_among fs t) ≡ q t
agrees p q [] t a h = h refl
agrees p q (f ∷ fs) t a h =
    let both = and_parts (beq (p f.1) (q f.0)) (agree_on p q fs) a in
    go (bytes_eq f.0 t) refl both.0 (agrees p q fs t both.1) h
  where
    go : (b : Bool) → bytes_eq f.0 t ≡ b → beq (p f.1) (q f.0) ≡ true
        → ((is_one_of (texts_of fs) t ≡ false → p (other_kind t) ≡ q t) → p (kind_among fs t) ≡ q t)
        → ((b || is_one_of (texts_of fs) t) ≡ false → p (other_kind t) ≡ q t)
        → p (cond b f.1 (kind_among fs t)) ≡ q t
    go true e same again h =
        (booleans_Decides (p f.1) (q f.0)).0 same ∙ ap q ((bytes_eq-Decides f.0 t).0 e)
    go false e same again h = again h

-- any other text has the kind of its first byte
pub other_kind_of : (fs : List (List ℕ × Kind)) (t : List ℕ) → is_one_of (texts_of fs) t ≡ false
    → kind_among fs t ≡ other_kind t
other_kind_of [] t h = refl
other_kind_of (f ∷ fs) t h = go (bytes_eq f.0 t) h (other_kind_of fs t)
  where
    go : (b : Bool) → (b || is_one_of (texts_of fs) t) ≡ false
        → (is_one_of (texts_of fs) t ≡ false → kind_among fs t ≡ other_kind t)
        → cond b f.1 (kind_among fs t) ≡ other_kind t
    go true h again = absurd cc
    go false h again = again h

pub fixed_is_token : (t : List ℕ) → is_one_of fixed_texts t ≡ true → IsToken t
unfolding slots punctuators
fixed_is_token t h = one_of is_token fixed_texts t refl h

-- ---- all other tokens

pub word_starts : (b : ℕ) → class b ≡ 1 → is_word_start b ≡ true
word_starts b h = grind (arith, nat_tests)

word_no_digit : (b : ℕ) → class b ≡ 1 → is_ascii_digit b ≡ false
word_no_digit b h = grind (arith, nat_tests)

word_no_quote : (b : ℕ) → class b ≡ 1 → (b == quote) ≡ false
word_no_quote b h = grind (arith, nat_tests)

digit : (b : ℕ) → class b ≡ 2 → is_ascii_digit b ≡ true
digit b h = grind (arith, nat_tests)

digit_no_word : (b : ℕ) → class b ≡ 2 → is_word_start b ≡ false
digit_no_word b h = grind (arith, nat_tests)

digit_no_quote : (b : ℕ) → class b ≡ 2 → (b == quote) ≡ false
digit_no_quote b h = grind (arith, nat_tests)

quote_is : (b : ℕ) → class b ≡ 3 → (b == quote) ≡ true
quote_is b h = grind (arith, nat_tests)

quote_no_word : (b : ℕ) → class b ≡ 3 → is_word_start b ≡ false
quote_no_word b h = grind (arith, nat_tests)

quote_no_digit : (b : ℕ) → class b ≡ 3 → is_ascii_digit b ≡ false
quote_no_digit b h = grind (arith, nat_tests)

slots_fixed : list_all (is_one_of fixed_texts) slots ≡ true
unfolding slots
slots_fixed = refl

punctuators_fixed : list_all (is_one_of fixed_texts) punctuators ≡ true
unfolding punctuators
punctuators_fixed = refl

-- a token that isn't in the table is a word, a number or a string, as its kind says
others : (t : List ℕ) → IsToken t → is_one_of fixed_texts t ≡ false
    → (is K.Identifier (other_kind t) ≡ is_word t) × (is K.Number (other_kind t) ≡ is_number t)
    × (is K.Str (other_kind t) ≡ is_string t)
others [] h n = absurd (no_empty_token h)
others (b ∷ bs) h n = elim (token_of b bs h) [
  | word c a ↦ (
    rw (word_no_quote b c, word_no_digit b c, word_starts b c, a) refl,
    rw (word_no_quote b c, word_no_digit b c) refl,
    rw (word_no_quote b c, word_no_digit b c) refl,
  )
  | number c a ↦ (
    rw (digit_no_quote b c, digit b c, digit_no_word b c) refl,
    rw (digit_no_quote b c, digit b c, a) refl,
    rw (digit_no_quote b c, digit b c) refl,
  )
  | string c a ↦ (
    rw (quote_is b c, quote_no_word b c) refl,
    rw (quote_is b c, quote_no_digit b c) refl,
    rw (quote_is b c, a) refl,
  )
  | slot c a ↦ (let z : is_one_of fixed_texts (b ∷ bs) ≡ true =
      one_of (is_one_of fixed_texts) slots (b ∷ bs) slots_fixed a in absurd cc)
  | punctuator c l a ↦ (let z : is_one_of fixed_texts (b ∷ bs) ≡ true =
      one_of (is_one_of fixed_texts) punctuators (b ∷ bs) punctuators_fixed a in absurd cc)
]

-- such a token has one of three kinds
pub three : (p q : Kind → Bool) → p K.Str ≡ q K.Str → p K.Number ≡ q K.Number
    → p K.Identifier ≡ q K.Identifier → (t : List ℕ) → p (other_kind t) ≡ q (other_kind t)
three p q s n i [] = i
three p q s n i (b ∷ bs) = go (b == quote) (is_ascii_digit b)
  where
    go : (c d : Bool) → p (cond c K.Str (cond d K.Number K.Identifier))
        ≡ q (cond c K.Str (cond d K.Number K.Identifier))
    go true d = s
    go false true = n
    go false false = i

-- a text that isn't in the table is none of some of its texts
pub none_of : (texts : List (List ℕ)) → list_all (is_one_of fixed_texts) texts ≡ true → (t : List ℕ)
    → is_one_of fixed_texts t ≡ false → is_one_of texts t ≡ false
none_of texts a t n = false_from_ne_true (is_one_of texts t)
    (λ e. both_ways (is_one_of fixed_texts t) n (one_of (is_one_of fixed_texts) texts t a e))

-- ---- the tests of the grammar's leaves

-- this kind is that of the text s, which is in the table, and of no other text
abbrev pub has_text : Kind → List ℕ → Bool
has_text k s = agree_on (is k) (bytes_eq s) fixed_tokens
    && (is_one_of fixed_texts s && not (is k K.Str || (is k K.Number || is k K.Identifier)))

pub text_agrees : (k : Kind) (s : List ℕ) → has_text k s ≡ true → (t : List ℕ)
    → is k (kind_of t) ≡ bytes_eq s t
text_agrees k s h t =
    let a = and_parts (agree_on (is k) (bytes_eq s) fixed_tokens)
    (is_one_of fixed_texts s && not (is k K.Str || (is k K.Number || is k K.Identifier))) h in
    let b = and_parts (is_one_of fixed_texts s)
    (not (is k K.Str || (is k K.Number || is k K.Identifier))) a.1 in
    let c = or_parts (is k K.Str) (is k K.Number || is k K.Identifier) (not-true _ b.1) in
    let d = or_parts (is k K.Number) (is k K.Identifier) c.1 in
    agrees (is k) (bytes_eq s) fixed_tokens t a.0
    (λ n. three (is k) (λ _. false) c.0 d.0 d.1 t
    ∙ sym (neither_first (bytes_eq s t) false (none_of (s ∷ []) (rw b.0 refl) t n)))

pub text_is_fixed : (k : Kind) (s : List ℕ) → has_text k s ≡ true → is_one_of fixed_texts s ≡ true
text_is_fixed k s h =
    let a = and_parts (agree_on (is k) (bytes_eq s) fixed_tokens)
    (is_one_of fixed_texts s && not (is k K.Str || (is k K.Number || is k K.Identifier))) h in
    (and_parts (is_one_of fixed_texts s)
    (not (is k K.Str || (is k K.Number || is k K.Identifier))) a.1).0

pub number_agrees : (t : List ℕ) → IsToken t → is K.Number (kind_of t) ≡ is_number t
number_agrees t h = agrees (is K.Number) is_number fixed_tokens t refl (λ n. (others t h n).1)

pub string_agrees : (t : List ℕ) → IsToken t → is K.Str (kind_of t) ≡ is_string t
string_agrees t h = agrees (is K.Str) is_string fixed_tokens t refl (λ n. (others t h n).2)

pub any_word_agrees : (t : List ℕ) → IsToken t → is_any_word (kind_of t) ≡ is_word t
any_word_agrees t h = agrees is_any_word is_word fixed_tokens t refl
    (λ n. three is_any_word (is K.Identifier) refl refl refl t ∙ (others t h n).0)

pub ident_agrees : (t : List ℕ) → IsToken t
    → is_ident (kind_of t) ≡ (is_word t && not (is_one_of reserved t))
ident_agrees t h =
    agrees is_ident (λ u. is_word u && not (is_one_of reserved u)) fixed_tokens t refl
    (λ n. three is_ident (is K.Identifier) refl refl refl t ∙ (others t h n).0
    ∙ sym (and-true (is_word t)) ∙ ap (λ b. is_word t && not b) (sym (none_of reserved refl t n)))

-- ---- words, numbers and strings are tokens

pub word_is_token : (t : List ℕ) → is_word t ≡ true → IsToken t
word_is_token t h = or_left (is_word t)
    (is_number t || (is_string t || (is_one_of slots t || is_one_of punctuators t))) h

pub number_is_token : (t : List ℕ) → is_number t ≡ true → IsToken t
number_is_token t h = or_right (is_word t)
    (is_number t || (is_string t || (is_one_of slots t || is_one_of punctuators t)))
    (or_left (is_number t) (is_string t || (is_one_of slots t || is_one_of punctuators t)) h)

pub string_is_token : (t : List ℕ) → is_string t ≡ true → IsToken t
string_is_token t h = or_right (is_word t)
    (is_number t || (is_string t || (is_one_of slots t || is_one_of punctuators t)))
    (or_right (is_number t) (is_string t || (is_one_of slots t || is_one_of punctuators t))
    (or_left (is_string t) (is_one_of slots t || is_one_of punctuators t) h))

pub ident_is_token : (t : List ℕ) → (is_word t && not (is_one_of reserved t)) ≡ true → IsToken t
ident_is_token t h = word_is_token t (and_parts (is_word t) (not (is_one_of reserved t)) h).0
