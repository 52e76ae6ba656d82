-- Names of new files.
use Rattle.std.proofs.Common.{◌≡◌, ◌∙◌, ◌++◌, ◌∷◌, ◌+◌, ◌-◌, ◌<◌, ◌≢◌, ℕ, List, Bool, true, false, Option, Some, None, Result, Ok, Err, MatchOption, arith, ap, sym, refl, subst, cond, codes, drop, get_or, length, length-drop, eqb, inl, inr, ◌^◌}
use denote.Ref.{Bor}
use Rattle.std.proofs.lemmas.Bool.{cases_lt, eqb-true}
use Rattle.std.proofs.lemmas.List.{append_cancel_left, get_or-drop}
use Rattle.std.proofs.lemmas.Str.Parse.{digit_at}
use Rattle.std.proofs.lemmas.Str.Pattern.{IsSplitOnceResult, split_after}
use Rattle.std.specs.Char.{is_ascii_hexdigit}
use Rattle.std.specs.List.{list_all}
use Rattle.std.specs.Prelude.{IsTrue}
use Rattle.std.specs.Result.{result_ok}
use Rattle.std.specs.Str.Parse.{AllDigits, IsNumeral, ParsesUnsigned, without_leading_plus}
use Rattle.cedar_files.specs.Beside.{IsNewName, IsReadAs}

module _ (text : List ℕ) where
  by_plus : (b : Bool) → eqb (get_or text 0 0) 43 ≡ b → AllDigits 10 (drop (cond b 1 0) text)
      → (i : ℕ) → i < length text → get_or text i 0 ≢ 46
  by_plus false is digits i inside dot = let digit = digit_at text i digits inside in omega (arith, digit, dot)
  by_plus true is digits i inside dot =
      let plus : get_or text 0 0 ≡ 43 = eqb-true (get_or text 0 0) 43 is in
      elim (cases_lt 0 i) [
        | inl some ↦
            let digit = digit_at (drop 1 text) (i - 1) digits (omega (arith, length-drop 1 text, some, inside)) in
            let there = get_or-drop 1 text (i - 1) 0 in
            let same : 1 + (i - 1) ≡ i = omega (arith, some) in
            omega (arith, digit, there, ap (λ k. get_or text k 0) same, dot)
        | inr none ↦
            let same : i ≡ 0 = omega (arith, none) in
            omega (arith, plus, ap (λ k. get_or text k 0) same, dot)
      ]

  -- the text of a number holds no dot
  pub no_dot : IsNumeral 10 (without_leading_plus text) → (i : ℕ) → i < length text → get_or text i 0 ≢ 46
  no_dot numeral = by_plus (eqb (get_or text 0 0) 43) refl numeral.1

module _ (name rest : List ℕ) (front : name ≡ codes ".cedar-files." ++ rest) where
  -- the parts of a name are those that it is split into
  pub read_parts : (r : Option (Bor (List ℕ) × Bor (List ℕ))) → IsSplitOnceResult 46 rest r → (number : ℕ)
      → IsNewName name number
      → MatchOption r ⊥ (λ x. IsReadAs x.0.now number × IsTrue (list_all is_ascii_hexdigit x.1.now))
  read_parts r split number (text, bits, is, read, hex) =
      by_result r (split_after 46 rest text bits r split (omega arith)
      (append_cancel_left (codes ".cedar-files.") rest (text ++ (46 ∷ bits)) (sym front ∙ is)) (no_dot text read.0))
    where
      by_result : (r : Option (Bor (List ℕ) × Bor (List ℕ)))
          → MatchOption r ⊥ (λ x. (x.0.now ≡ text) × (x.1.now ≡ bits))
          → MatchOption r ⊥ (λ x. IsReadAs x.0.now number × IsTrue (list_all is_ascii_hexdigit x.1.now))
      by_result None h = h
      by_result (Some x) (same_text, same_bits) = (
        subst (λ t. IsReadAs t number) (sym same_text) read,
        subst (λ t. IsTrue (list_all is_ascii_hexdigit t)) (sym same_bits) hex,
      )

  -- the number is what is read before the dot
  pub read_number : {E : Type 0} (text bits : Bor (List ℕ)) (r : Result ℕ E) → IsSplitOnceResult 46 rest (Some (text, bits))
      → rest ≡ text.now ++ (46 ∷ bits.now) → IsTrue (list_all is_ascii_hexdigit bits.now) → ParsesUnsigned 32 10 text.now r
      → MatchOption (result_ok r) ((number : ℕ) → ¬ (IsNewName name number)) (λ number. IsNewName name number)
  read_number text bits (Ok number) split at hex (holds, is) = (
    text.now,
    bits.now,
    front ∙ ap (λ z. codes ".cedar-files." ++ z) at,
    (holds.0, sym is, subst (λ n. n < 2 ^ 32) (sym is) holds.1),
    hex,
  )
  read_number text bits (Err e) split at hex not = λ number new.
      let parts = read_parts (Some (text, bits)) split number new in
      not (parts.0.0, subst (λ n. n < 2 ^ 32) (sym parts.0.1) parts.0.2)
