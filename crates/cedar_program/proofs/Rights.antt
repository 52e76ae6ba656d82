-- Permissions that are among others.
use Rattle.std.proofs.Common.{◌≡◌, ◌∙◌, ℕ, ◌/◌, ◌%◌, ◌^◌, ap, arith, bit_and, bit_or, sym, subst}
use Rattle.std.proofs.lemmas.Nat.{and_assoc, and_comm, and_mod, and_shr, or_mod}
use Rattle.std.specs.Int.Bits.{and_self}
use Rattle.std.specs.Prelude.{Bool}
use Rattle.cedar_program.specs.Rights.{IsNarrowed, IsWithin, group_of, others_of, owner_of}

-- what is taken of some permissions is among them
pub part_is_within : (m k : ℕ) → IsWithin (bit_and m k) m
part_is_within m k = and_assoc m m k ∙ ap (λ z. bit_and m z) (and_comm k m)
    ∙ sym (and_assoc k m m) ∙ ap (λ z. bit_and z k) (and_self m)

pub all_are_within : (m : ℕ) → IsWithin m m
all_are_within m = and_self m

-- a part of what is within
within_more : (m k n : ℕ) → IsWithin k n → IsWithin (bit_and m k) n
within_more m k n h = and_assoc n m k ∙ ap (λ z. bit_and m z) h

pub second_is_within : (m k : ℕ) → IsWithin (bit_and m k) k
second_is_within m k = within_more m k k (and_self k)

-- the permissions of a class among the permissions that two modes share
class_shared : (m n k : ℕ) → bit_and m n / 2 ^ k % 8 ≡ bit_and (m / 2 ^ k % 8) (n / 2 ^ k % 8)
class_shared m n k = ap (λ z. z % 8) (and_shr m n k) ∙ and_mod (m / 2 ^ k) (n / 2 ^ k) 3

class_within : (m n k p : ℕ) → IsWithin (n / 2 ^ k % 8) p → IsWithin (bit_and m n / 2 ^ k % 8) p
class_within m n k p h =
    subst (λ z. IsWithin z p) (sym (class_shared m n k)) (within_more (m / 2 ^ k % 8) (n / 2 ^ k % 8) p h)

others_within : (m n p : ℕ) → IsWithin (n % 8) p → IsWithin (bit_and m n % 8) p
others_within m n p h = subst (λ z. IsWithin z p) (sym (and_mod m n 3)) (within_more (m % 8) (n % 8) p h)

-- a part of a narrowed mode is one
pub part_is_narrowed : (m : ℕ) (o g : Bool) (n : ℕ) → IsNarrowed m o g n → IsNarrowed m o g (bit_and m n)
part_is_narrowed m o g n h = record {
  group = λ e. (class_within m n 3 (others_of m) (h.group e).0, others_within m n (group_of m) (h.group e).1);
  owner = λ e. (
    class_within m n 3 (owner_of m) (h.owner e).0,
    others_within m n (owner_of m) (h.owner e).1,
    class_within m n 6 (bit_or (group_of m) (others_of m)) (h.owner e).2,
  );
}

-- ---- three bits that limit three others

again : (p : ℕ) → p % 8 % 8 ≡ p % 8
again p = omega arith

pub second_limits : (a b p r : ℕ) → b ≡ p % 8 → r ≡ bit_and a b % 8 → IsWithin r (p % 8)
second_limits a b p r e is =
    subst (λ z. IsWithin z (p % 8))
    (sym (is ∙ and_mod a b 3 ∙ ap (λ z. bit_and (a % 8) z) (ap (λ z. z % 8) e ∙ again p)))
    (within_more (a % 8) (p % 8) (p % 8) (and_self (p % 8)))

pub first_limits : (a b p r : ℕ) → a ≡ p % 8 → r ≡ bit_and a b % 8 → IsWithin r (p % 8)
first_limits a b p r e is = second_limits b a p r e (is ∙ ap (λ z. z % 8) (and_comm a b))

pub either_limits : (a p q r : ℕ) → a ≡ bit_or (p % 8) (q % 8) → r ≡ a % 8
    → IsWithin r (bit_or (p % 8) (q % 8))
either_limits a p q r e is =
    let both : bit_or (p % 8) (q % 8) % 8 ≡ bit_or (p % 8) (q % 8) =
    or_mod (p % 8) (q % 8) 3 ∙ ap (λ z. bit_or z (q % 8 % 8)) (again p)
    ∙ ap (λ z. bit_or (p % 8) z) (again q) in
    subst (λ z. IsWithin z (bit_or (p % 8) (q % 8))) (sym (is ∙ ap (λ z. z % 8) e ∙ both))
    (and_self (bit_or (p % 8) (q % 8)))
