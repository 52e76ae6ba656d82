-- Which word is the first option that isn't UTF-8.
use Rattle.std.proofs.Common.{◌≡◌, ◌∙◌, ◌∷◌, ◌+◌, ◌<◌, [], ℕ, List, Bool, true, false, Option, Some, None, String, Global, add-one, ap, codes, cond, drop, drop-cons, get_or, length, map, string_bytes, suc, sym}
use Rattle.std.specs.Prelude.{◌&&◌, find, is_none, nat_eq, not}
use Rattle.std.specs.List.{cons_option, filter_map, starts_with, take_while}
use Rattle.std.specs.Str.{bytes_eq}
use Rattle.std.proofs.lemmas.List.Sums.{take_while-cons}
use Rattle.cedar_files.specs.Words.{ends_options, odd_option_of}

dash : List ℕ → Bool
dash bytes = starts_with nat_eq bytes (codes "-")

module _ (odd : List ℕ → Option (List ℕ)) (x : List ℕ) (xs : List (List ℕ)) where
  rest : List (List ℕ)
  rest = take_while (λ t. not (ends_options odd t)) xs

  goes_on : ends_options odd x ≡ false
      → odd_option_of odd (x ∷ xs) ≡ find dash (cons_option (odd x) (filter_map odd rest))
  unfolding dash rest
  goes_on no_end = ap (λ texts. find dash (filter_map odd texts))
      (take_while-cons (λ t. not (ends_options odd t)) x xs ∙ ap (λ b. cond (not b) (x ∷ rest) []) no_end)

  -- a text that is passed
  pub passed_text : odd x ≡ None → bytes_eq x (codes "--") ≡ false → odd_option_of odd (x ∷ xs) ≡ odd_option_of odd xs
  unfolding dash rest
  passed_text none other = goes_on (ap (λ o. is_none o && bytes_eq x (codes "--")) none ∙ ap (λ b. true && b) other)
      ∙ ap (λ o. find dash (cons_option o (filter_map odd rest))) none

  odd_one : (bytes : List ℕ) → odd x ≡ Some bytes
      → odd_option_of odd (x ∷ xs) ≡ cond (dash bytes) (Some bytes) (odd_option_of odd xs)
  unfolding dash rest
  odd_one bytes some = goes_on (ap (λ o. is_none o && bytes_eq x (codes "--")) some)
      ∙ ap (λ o. find dash (cons_option o (filter_map odd rest))) some

  -- a word that isn't UTF-8, and no option
  pub passed_bytes : (bytes : List ℕ) → odd x ≡ Some bytes → starts_with nat_eq bytes (codes "-") ≡ false
      → odd_option_of odd (x ∷ xs) ≡ odd_option_of odd xs
  unfolding dash
  passed_bytes bytes some other = odd_one bytes some ∙ ap (λ b. cond b (Some bytes) (odd_option_of odd xs)) other

  -- one that is an option
  pub found_bytes : (bytes : List ℕ) → odd x ≡ Some bytes → starts_with nat_eq bytes (codes "-") ≡ true
      → odd_option_of odd (x ∷ xs) ≡ Some bytes
  unfolding dash
  found_bytes bytes some begins = odd_one bytes some ∙ ap (λ b. cond b (Some bytes) (odd_option_of odd xs)) begins

-- the text that comes next
pub next_text : (items : List (String Global)) (i : ℕ) (item : String Global) (text : List ℕ) → i < length items
    → item ≡ get_or items i item → text ≡ string_bytes item
    → map string_bytes (drop i items) ≡ text ∷ map string_bytes (drop (i + 1) items)
next_text items i item text inside is same = ap (λ l. map string_bytes l) (drop-cons items i item inside)
    ∙ ap (λ z. z ∷ map string_bytes (drop (suc i) items)) (ap string_bytes (sym is) ∙ sym same)
    ∙ ap (λ n. text ∷ map string_bytes (drop n items)) (sym (add-one i))
