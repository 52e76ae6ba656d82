-- Numbers among the tokens.
use Rattle.std.specs.Prelude.{◌≡◌, ◌==◌, ℕ, ◌||◌, Bool, true, false, List, [], ◌∷◌, if◌then◌else◌}
use Rattle.std.specs.Char.{is_ascii_digit}
use Rattle.std.specs.Str.{bytes_eq}
use Rattle.std.proofs.Common.{refl, sym, ap, ◌∙◌, arith, cond}
use Rattle.std.proofs.lemmas.Bool.Decides.{nat_tests}
use Rattle.std.proofs.lemmas.Slice.Eq.{bytes_eq-Decides}
use Rattle.std.proofs.Math.Bool.{or-false}
use Rattle.cedar_tokens.specs.Bytes.{quote}
use Rattle.cedar_tokens.specs.Units.{is_word, is_number, is_string, is_one_of, slots, punctuators, is_token}
use Rattle.cedar_tokens.specs.Listing.{token_value, without_zeros}
use Rattle.cedar_tokens.specs.declared.kind.Kind.{Kind}
use Rattle.cedar_tokens.specs.declared.kind.Kind.TheVariants as K
use Rattle.cedar_tokens.specs.Kinds.{is}
use Rattle.cedar_tokens.specs.TokenKinds.{fixed_tokens, other_kind, kind_among, kind_of}
use Rattle.cedar_grammar.specs.Trees.{none, leaf}
use Rattle.cedar_reading.specs.Reading.{IsRight, Stands}
use Rattle.cedar_reading.specs.declared.lexeme.Lexeme.{Lexeme}
use Rattle.cedar_reading.proofs.LeafTexts.{nodes_leaf, covers_leaf}
use Rattle.cedar_tokens.proofs.Heads.{digit_no_word}

abbrev starts_digit : List ℕ → Bool
starts_digit [] = false
starts_digit (b ∷ bs) = is_ascii_digit b

abbrev none_numbers : List (List ℕ × Kind) → Bool
none_numbers [] = true
none_numbers (f ∷ fs) = if is K.Number f.1 then false else none_numbers fs

abbrev none_digits : List (List ℕ) → Bool
none_digits [] = true
none_digits (t ∷ ts) = if starts_digit t then false else none_digits ts

other_digit : (u : List ℕ) → is K.Number (other_kind u) ≡ true → starts_digit u ≡ true
other_digit [] h = absurd cc
other_digit (b ∷ bs) h = go (b == quote) (is_ascii_digit b) refl h
  where
    go : (x y : Bool) → is_ascii_digit b ≡ y
        → is K.Number (if x then K.Str else (if y then K.Number else K.Identifier)) ≡ true
        → is_ascii_digit b ≡ true
    go true y e h = absurd cc
    go false true e h = e
    go false false e h = absurd cc

among_digit : (fs : List (List ℕ × Kind)) (u : List ℕ) → none_numbers fs ≡ true
    → is K.Number (kind_among fs u) ≡ true → starts_digit u ≡ true
among_digit [] u a h = other_digit u h
among_digit (f ∷ fs) u a h = go (is K.Number f.1) refl (bytes_eq f.0 u) a h (among_digit fs u)
  where
    go : (n : Bool) → is K.Number f.1 ≡ n → (b : Bool) → cond n false (none_numbers fs) ≡ true
        → is K.Number (cond b f.1 (kind_among fs u)) ≡ true
        → (none_numbers fs ≡ true → is K.Number (kind_among fs u) ≡ true → starts_digit u ≡ true)
        → starts_digit u ≡ true
    go true e b a h ih = absurd cc
    go false e true a h ih = absurd cc
    go false e false a h ih = ih a h

one_of_digit : (ts : List (List ℕ)) (u : List ℕ) → none_digits ts ≡ true → starts_digit u ≡ true
    → is_one_of ts u ≡ false
one_of_digit [] u n h = refl
one_of_digit (t ∷ ts) u n h = go (bytes_eq t u) refl (starts_digit t) refl n (one_of_digit ts u)
  where
    go : (b : Bool) → bytes_eq t u ≡ b → (d : Bool) → starts_digit t ≡ d
        → cond d false (none_digits ts) ≡ true
        → (none_digits ts ≡ true → starts_digit u ≡ true → is_one_of ts u ≡ false)
        → (b || is_one_of ts u) ≡ false
    go b e true i k ih = absurd cc
    go false e false i k ih = ih k h
    go true e false i k ih = absurd (let g : t ≡ u = (bytes_eq-Decides t u).0 e in
        let j : starts_digit u ≡ false = ap starts_digit (sym g) ∙ i in cc)

slots_digit : none_digits slots ≡ true
unfolding slots
slots_digit = refl

punctuators_digit : none_digits punctuators ≡ true
unfolding punctuators
punctuators_digit = refl

no_quote : (b : ℕ) → is_ascii_digit b ≡ true → (b == quote) ≡ false
no_quote b d = grind (arith, nat_tests)

second_of : (w n s a b : Bool) → w ≡ false → s ≡ false → a ≡ false → b ≡ false
    → (w || (n || (s || (a || b)))) ≡ true → n ≡ true
second_of w n s a b e i j k h = sym (or-false n) ∙ (rw (e, i, j, k) at h)

pub kind_number : (u : List ℕ) → is K.Number (kind_of u) ≡ true → is_token u ≡ true
    → is_number u ≡ true
kind_number u h t = go u (among_digit fixed_tokens u refl h) t
  where
    go : (u : List ℕ) → starts_digit u ≡ true → is_token u ≡ true → is_number u ≡ true
    go [] d t = absurd cc
    go (b ∷ bs) d t = second_of (is_word (b ∷ bs)) (is_number (b ∷ bs)) (is_string (b ∷ bs))
        (is_one_of slots (b ∷ bs)) (is_one_of punctuators (b ∷ bs))
        (rw (digit_no_word b d) refl) (rw (no_quote b d) refl) (one_of_digit slots
        (b ∷ bs) slots_digit d) (one_of_digit punctuators (b ∷ bs) punctuators_digit d) t

-- a number as a leaf
pub row_number : (t : Lexeme) (u : List ℕ) → t.kind ≡ K.Number → u ≡ without_zeros t.text.now
    → Stands t.span (leaf u none) (leaf t none)
row_number t u e h = record {
  same = λ r. ap (λ z. leaf z none) (h ∙ sym (value r.0)) ∙ sym (nodes_leaf t K.Number none e refl);
  place = covers_leaf t K.Number e refl;
}
  where
    value : IsRight t → token_value t.text.now ≡ without_zeros t.text.now
    value r = ap (λ b. if b then without_zeros t.text.now else t.text.now)
        (kind_number t.text.now (ap (is K.Number) (sym r.0 ∙ e)) r.1)
