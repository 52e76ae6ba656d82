-- What is left of a text that an output is compared with.
use Rattle.std.specs.Prelude.{◌≡◌, ◌↔◌, ◌++◌, ℕ, List, Option, Some, None}
use Rattle.std.specs.Borrow.{Bor}
use Rattle.std.proofs.Common.{ap, sym, ◌∙◌, append_assoc}

abbrev pub left_in : Option (Bor (List ℕ)) → Option (List ℕ)
left_in None = None
left_in (Some l) = Some l.now

-- a rest that passes first x and then y passes both
pub passed_twice : (a b c : Option (List ℕ)) (x y : List ℕ) → ((z : List ℕ) → (a ≡ Some (x ++ z)) ↔ (b ≡ Some z)) → ((z : List ℕ) → (b ≡ Some (y ++ z)) ↔ (c ≡ Some z)) → (z : List ℕ) → (a ≡ Some ((x ++ y) ++ z)) ↔ (c ≡ Some z)
passed_twice a b c x y h k z = (
  λ e. (k z).0 ((h (y ++ z)).0 (e ∙ ap Some (append_assoc x y z))),
  λ e. (h (y ++ z)).1 ((k z).1 e) ∙ ap Some (sym (append_assoc x y z)),
)
