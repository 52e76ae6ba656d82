-- A token's value is its own value.
use Rattle.std.proofs.Common.{◌≡◌, ℕ, Bool, true, false, cond, not, ◌&&◌, ◌==◌, List, [], ◌∷◌, length, map, refl, ap, ◌∙◌}
use Rattle.cedar_tokens.specs.Bytes.{digit_zero}
use Rattle.cedar_tokens.specs.Units.{is_number}
use Rattle.cedar_tokens.specs.Listing.{Decorated, without_zeros, token_value, EqualByValue}
use Rattle.cedar_laws.specs.Output.{with_value}
use Rattle.cedar_laws.proofs.Listed.{number_value}

zeros_once : (b : ℕ) (bs : List ℕ) → without_zeros (without_zeros (b ∷ bs)) ≡ without_zeros (b ∷ bs)
unfolding without_zeros
zeros_once b [] = go (b == digit_zero && false) refl
  where
    go : (x : Bool) → (b == digit_zero && false) ≡ x
        → without_zeros (cond x [] (b ∷ [])) ≡ cond x [] (b ∷ [])
    go true e = refl
    go false e = rw e refl
zeros_once b (c ∷ cs) = go (b == digit_zero && not (length (c ∷ cs) == 0)) refl (zeros_once c cs)
  where
    go : (x : Bool) → (b == digit_zero && not (length (c ∷ cs) == 0)) ≡ x
        → without_zeros (without_zeros (c ∷ cs)) ≡ without_zeros (c ∷ cs) → without_zeros (cond x
        (without_zeros (c ∷ cs)) (b ∷ (c ∷ cs))) ≡ cond x (without_zeros (c ∷ cs)) (b ∷ (c ∷ cs))
    go true e ih = ih
    go false e ih = rw e refl

pub value_once : (u : List ℕ) → token_value (token_value u) ≡ token_value u
value_once u = go (is_number u) refl
  where
    numbered : (u : List ℕ) → is_number u ≡ true → cond (is_number (without_zeros u)) (without_zeros
        (without_zeros u)) (without_zeros u) ≡ without_zeros u
    numbered [] h = absurd cc
    numbered (b ∷ bs) h = rw (number_value b bs h) (zeros_once b bs)

    go : (x : Bool) → is_number u ≡ x → cond (is_number (cond x (without_zeros u) u)) (without_zeros
        (cond x (without_zeros u) u)) (cond x (without_zeros u) u) ≡ cond x (without_zeros u) u
    go true e = numbered u e
    go false e = rw e refl

-- the list of the values is equal by value to the list
pub values_equal : (ts : List Decorated) (cs : List (List ℕ)) → EqualByValue
    (record { tokens = map with_value ts; closing = cs }) (record { tokens = ts; closing = cs })
values_equal ts cs = ap (λ z. record { tokens = z; closing = cs }) (each ts)
  where
    each : (ts : List Decorated) → map with_value (map with_value ts) ≡ map with_value ts
    each [] = refl
    each (t ∷ ts) = ap (λ z. record { text = z; leading = t.leading; trailing = t.trailing } ∷ map
        with_value (map with_value ts)) (value_once t.text) ∙ ap (λ z. with_value t ∷ z) (each ts)

-- rows: `resource, // r` before `)`, and a comma whose neighbour has a trailing text
abbrev t : List ℕ → Decorated
t s = record { text = s; leading = []; trailing = [] }
