-- Which word that isn't UTF-8 is found first.
use Rattle.std.proofs.Common.{◌≡◌, ◌∙◌, ◌++◌, ◌∷◌, ◌+◌, ◌<◌, ℕ, List, Option, Some, None, add-one, ap, drop, drop-cons, get_or, length, map, sym}
use Rattle.std.specs.Prelude.{slice_get}
use Rattle.std.specs.List.{cons_option, filter_map}
use denote.Ref.{Bor}

-- the first of the words that these texts stand in for
abbrev pub first_of : (List ℕ → Option (List ℕ)) → List (List ℕ) → Option (List ℕ)
first_of odd texts = slice_get (filter_map odd texts) 0

-- the value that comes next
pub next_value : (items more : List (Bor (List ℕ))) (i : ℕ) (d : Bor (List ℕ)) → i < length items
    → map (λ x. x.now) (drop i items ++ more)
    ≡ (get_or items i d).now ∷ map (λ x. x.now) (drop (i + 1) items ++ more)
next_value items more i d inside =
    let value = (get_or items i d).now in
    ap (λ l. map (λ x. x.now) (l ++ more)) (drop-cons items i d inside)
    ∙ ap (λ n. value ∷ map (λ x. x.now) (drop n items ++ more)) (sym (add-one i))

module _ (odd : List ℕ → Option (List ℕ)) (text : List ℕ) (texts : List (List ℕ)) where
  -- one that stands in for a word
  pub found_value : (word : List ℕ) → odd text ≡ Some word → first_of odd (text ∷ texts) ≡ Some word
  found_value word some = ap (λ o. slice_get (cons_option o (filter_map odd texts)) 0) some

  -- one that doesn't
  pub passed_value : odd text ≡ None → first_of odd (text ∷ texts) ≡ first_of odd texts
  passed_value none = ap (λ o. slice_get (cons_option o (filter_map odd texts)) 0) none
