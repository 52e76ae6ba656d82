-- The numbers of the command line.
use Rattle.std.proofs.Common.{◌≡◌, ◌<◌, ◌^◌, ◌∙◌, ℕ, List, Option, None, Some, inl, inr, refl, subst, sym}
use Rattle.std.specs.Str.Parse.{ParsesUnsigned, ExplainsUnsignedError, HasUnsignedDigitsIfOk}
use Rattle.std.specs.declared.num.ParseIntError.{ParseIntError}
use Rattle.clap.specs.Words.{ReadsOne}
use Rattle.cedar_program.specs.Options.{IsNumberOr}

abbrev pub Reads : List ℕ → Option ℕ → Type 0
Reads = ReadsOne {T = ℕ} {E = ParseIntError}
    (λ bs r. ParsesUnsigned 16 10 bs r × ExplainsUnsignedError 10 bs r × HasUnsignedDigitsIfOk bs r)

-- the argument has a number
pub given : (n m v : ℕ) (text : Option (List ℕ)) (read : Option ℕ) → (text ≡ None → read ≡ None)
    → ((t : List ℕ) → text ≡ Some t → Reads t read) → read ≡ Some v → m ≡ v → IsNumberOr n text m
given n m v None read none value is e = let bad : Some v ≡ None = sym is ∙ none refl in cc
given n m v (Some t) read none value is e =
    let h = subst (Reads t) is (value t refl) in inl (h.0.0, e ∙ h.0.1)

pub fits : (v : ℕ) (text : Option (List ℕ)) (read : Option ℕ) → (text ≡ None → read ≡ None)
    → ((t : List ℕ) → text ≡ Some t → Reads t read) → read ≡ Some v → v < 2 ^ 16
fits v None read none value is = let bad : Some v ≡ None = sym is ∙ none refl in cc
fits v (Some t) read none value is =
    let h = subst (Reads t) is (value t refl) in subst (λ n. n < 2 ^ 16) (sym h.0.1) h.0.0.1

-- the argument has none
pub missing : (n m : ℕ) (text : Option (List ℕ)) (read : Option ℕ)
    → ((t : List ℕ) → text ≡ Some t → Reads t read) → read ≡ None → m ≡ n → IsNumberOr n text m
missing n m None read value is e = e
missing n m (Some t) read value is e = let h = subst (Reads t) is (value t refl) in inr (h.1.0, e)
