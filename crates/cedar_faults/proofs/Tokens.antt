-- What is written of a token, one character after another.
use Rattle.std.specs.Prelude.{◌≡◌, ◌≢◌, ◌-◌, ℕ, zero, suc, List, [], ◌∷◌, ◌++◌, codes}
use Rattle.std.proofs.Common.{refl, arith, append_assoc}
use Rattle.cedar_faults.specs.Messages.{shown_character, shown}

-- nothing is left
pub shown_none : (left : ℕ) (done end whole : List ℕ) → done ++ (shown left [] ++ end) ≡ whole
    → done ++ end ≡ whole
shown_none zero done end whole e = e
shown_none (suc n) done end whole e = e

-- as many as are shown are written, and more are left
pub shown_cut : (left : ℕ) (c : ℕ) (cs done whole : List ℕ) → left ≡ 0
    → done ++ (shown left (c ∷ cs) ++ codes "'") ≡ whole → done ++ codes "...'" ≡ whole
shown_cut zero c cs done whole l e = e
shown_cut (suc n) c cs done whole l e = absurd (omega (arith, l))

-- one more character
pub shown_step : (left : ℕ) (c : ℕ) (cs done end whole : List ℕ) → left ≢ 0
    → done ++ (shown left (c ∷ cs) ++ end) ≡ whole
    → (done ++ shown_character c) ++ (shown (left - 1) cs ++ end) ≡ whole
shown_step zero c cs done end whole l e = absurd (l refl)
shown_step (suc n) c cs done end whole l e =
    let m : suc n - 1 ≡ n = omega arith in
    rw m (simp append_assoc (simp append_assoc at e))
