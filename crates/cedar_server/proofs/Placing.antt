-- What is placed so far.
use Rattle.std.proofs.Common.{◌≡◌, ◌+◌, ◌<◌, ◌≤◌, ℕ, List, [], ◌∷◌, ◌++◌, length, take, get_or, sym, subst, ◌∙◌}
use Rattle.std.proofs.lemmas.List.{take_all, take_more}
use Rattle.cedar_server.specs.Placed.{InTurn}

more_in_turn : {A B : Type 0} (P : A → B → Type 0) (xs : List A) (ys : List B) (x : A) (y : B) → InTurn P xs ys → P x y
    → InTurn P (xs ++ x ∷ []) (ys ++ y ∷ [])
more_in_turn P [] [] x y t p = (p, tt)
more_in_turn P [] (b ∷ ys) x y t p = absurd t
more_in_turn P (a ∷ xs) [] x y t p = absurd t
more_in_turn P (a ∷ xs) (b ∷ ys) x y t p = (t.0, more_in_turn P xs ys x y t.1 p)

-- one more of a list
pub one_more : {A B : Type 0} (P : A → B → Type 0) (xs : List A) (ys new : List B) (k : ℕ) (d : A) (y : B) → k < length xs
    → InTurn P (take k xs) ys → P (get_or xs k d) y → new ≡ ys ++ y ∷ [] → InTurn P (take (k + 1) xs) new
one_more P xs ys new k d y l t p n = subst (λ z. InTurn P (take (k + 1) xs) z) (sym n)
    (subst (λ z. InTurn P z (ys ++ y ∷ [])) (sym (take_more xs k d l)) (more_in_turn P (take k xs) ys (get_or xs k d) y t p))

pub all_of : {A B : Type 0} (P : A → B → Type 0) (xs items : List A) (ys : List B) (k : ℕ) → length items ≤ k → items ≡ xs
    → InTurn P (take k items) ys → InTurn P xs ys
all_of P xs items ys k l e t = subst (λ z. InTurn P z ys) (take_all k items l ∙ e) t
