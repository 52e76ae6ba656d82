-- The last byte of a token passes each test that its first byte, the bytes of words
-- and the quote pass.
use Rattle.std.proofs.Common.{◌≡◌, ℕ, ◌<◌, Bool, true, false, not, ◌==◌, List, [], ◌∷◌, ◌++◌, length, refl, ap, arith, sym, ◌∙◌}
use Rattle.std.specs.List.{list_all}
use Rattle.std.specs.Char.{is_ascii_digit}
use Rattle.std.proofs.lemmas.Bool.Decides.{nat_tests, Decides-eqb}
use Rattle.std.proofs.lemmas.Bool.{and_parts}
use Rattle.std.proofs.lemmas.List.{nil_from_length}
use Rattle.cedar_tokens.specs.Bytes.{backslash, line_feed, quote}
use Rattle.cedar_tokens.specs.Units.{IsToken, is_word_byte, is_string_rest, slots, punctuators}
use Rattle.cedar_tokens.proofs.Lists.{all_more}
use Rattle.cedar_tokens.proofs.Heads.{class, token_class, word, number, string, slot, punctuator, token_of, one_of}
use Rattle.cedar_tokens.proofs.Strings.{rest_test, rest_of}

digit_byte : (x : ℕ) → is_ascii_digit x ≡ true → is_word_byte x ≡ true
digit_byte x h = grind (arith, nat_tests)

-- the last byte passes
abbrev pub Ends : (ℕ → Bool) → List ℕ → Type 0
Ends p u = (front : List ℕ) × (b : ℕ) × (p b ≡ true) × (u ≡ front ++ (b ∷ []))

module _ (p : ℕ → Bool) where
  ends_more : (b : ℕ) (u : List ℕ) → Ends p u → Ends p (b ∷ u)
  ends_more b u e = (b ∷ e.0, e.1, e.2, ap (λ x. b ∷ x) e.3)

  ends_all : (b : ℕ) (u : List ℕ) → p b ≡ true → list_all p u ≡ true → Ends p (b ∷ u)
  ends_all b [] h a = ([], b, h, refl)
  ends_all b (c ∷ u) h a =
      let q = and_parts (p c) (list_all p u) a in ends_more b (c ∷ u) (ends_all c u q.0 q.1)

  module _ (quotes : p quote ≡ true) where
    ends_quote : (v : List ℕ) (escaped : Bool) → rest_test escaped v ≡ true → Ends p v
    ends_quote [] true h = absurd cc
    ends_quote [] false h = absurd cc
    ends_quote (b ∷ v) true h = ends_more b v
        (ends_quote v false (and_parts (not (b == line_feed)) (is_string_rest v) h).1)
    ends_quote (b ∷ v) false h = go (b == quote) refl (ends_quote v)
      where
        go : (x : Bool) → (b == quote) ≡ x → ((y : Bool) → rest_test y v ≡ true → Ends p v)
            → Ends p (b ∷ v)
        go true e ih =
            let z = nil_from_length v ((Decides-eqb (length v) 0).0 (rw e at h)) in
            ([], b, rw ((Decides-eqb b quote).0 e) quotes, rw z refl)
        go false e ih = ends_more b v (ih (b == backslash) (sym (rest_of b v e) ∙ h))

    pub token_ends : ((x : ℕ) → is_word_byte x ≡ true → p x ≡ true)
        → ((x : ℕ) → 0 < class x → p x ≡ true) → list_all (list_all p) slots ≡ true
        → list_all (list_all p) punctuators ≡ true → (b : ℕ) (v : List ℕ) → IsToken (b ∷ v)
        → Ends p (b ∷ v)
    token_ends words firsts in_slots in_punctuators b v t =
        let k = token_of b v t in
        let l = firsts b (token_class b v k) in
        elim k [
          | word _ a ↦ ends_all b v l (all_more is_word_byte p words v a)
          | number _ a ↦
              ends_all b v l (all_more is_ascii_digit p (λ x h. words x (digit_byte x h)) v a)
          | string _ a ↦ ends_more b v (ends_quote v false a)
          | slot _ a ↦ ends_all b v l (and_parts (p b) (list_all p v)
              (one_of (list_all p) slots (b ∷ v) in_slots a)).1
          | punctuator _ _ a ↦ ends_all b v l (and_parts (p b) (list_all p v)
              (one_of (list_all p) punctuators (b ∷ v) in_punctuators a)).1
        ]
