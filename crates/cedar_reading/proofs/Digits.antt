-- Removing leading zeros, one by one.
use Rattle.std.proofs.Common.{◌≡◌, ◌≢◌, ◌==◌, ℕ, true, false, not, ◌&&◌, List, [], ◌∷◌, length, refl, arith}
use Rattle.std.proofs.lemmas.Bool.Decides.{nat_tests}
use Rattle.cedar_tokens.specs.Bytes.{digit_zero}
use Rattle.cedar_tokens.specs.Listing.{without_zeros}

zero_test : (n : ℕ) → (n == 0) ≡ false → (digit_zero == digit_zero && not (n == 0)) ≡ true
zero_test n h = rw h refl

last_test : (n : ℕ) → (n == 0) ≡ true → (digit_zero == digit_zero && not (n == 0)) ≡ false
last_test n h = rw h refl

other_test : (b n : ℕ) → b ≢ digit_zero → (b == digit_zero && not (n == 0)) ≡ false
other_test b n h = grind (arith, nat_tests)

pub strip_zero : (bs rest : List ℕ) → bs ≡ digit_zero ∷ rest → (length rest == 0) ≡ false
    → without_zeros bs ≡ without_zeros rest
unfolding without_zeros
strip_zero bs rest e h = rw (e, zero_test (length rest) h) refl

pub one_zero : (bs rest : List ℕ) → bs ≡ digit_zero ∷ rest → (length rest == 0) ≡ true
    → bs ≡ without_zeros bs
unfolding without_zeros
one_zero bs rest e h = rw (e, last_test (length rest) h) refl

pub no_zero : (bs : List ℕ) → ((rest : List ℕ) → bs ≢ digit_zero ∷ rest) → bs ≡ without_zeros bs
unfolding without_zeros
no_zero [] h = refl
no_zero (b ∷ bs) h = rw (other_test b (length bs) (λ e. h bs (rw e refl))) refl
