-- Tests of sets over all kinds; a test gives the fact for each kind.
use Rattle.std.specs.Prelude.{◌≡◌, ℕ, zero, suc, Bool, true, false, ◌||◌, ◌&&◌, not, IsTrue, List, [], ◌∷◌}
use Rattle.std.proofs.Common.{refl}
use Rattle.std.proofs.lemmas.Bool.{not-true}
use Rattle.cedar_tokens.specs.declared.kind.Kind.{Kind}
use Rattle.cedar_tokens.specs.declared.kind.Kind.TheVariants as K
use Rattle.cedar_tokens.specs.Kinds.{code}
use Rattle.cedar_grammar.proofs.Booleans.{and_first, and_second, implied, and_second_false}

abbrev pub kinds : List Kind
kinds = K.True ∷ K.False ∷ K.If ∷ K.Then ∷ K.Else ∷ K.In ∷ K.Is ∷ K.Like ∷ K.Has ∷ K.Permit
    ∷ K.Forbid ∷ K.When ∷ K.Unless ∷ K.Principal ∷ K.Action ∷ K.Resource ∷ K.Context ∷ K.Identifier
    ∷ K.PrincipalSlot ∷ K.ResourceSlot ∷ K.Number ∷ K.Str ∷ K.At ∷ K.Dot ∷ K.Comma ∷ K.SemiColon
    ∷ K.Colon ∷ K.DoubleColon ∷ K.LParen ∷ K.RParen ∷ K.LBrace ∷ K.RBrace ∷ K.LBracket ∷ K.RBracket
    ∷ K.Equal ∷ K.NotEqual ∷ K.Lt ∷ K.Le ∷ K.Gt ∷ K.Ge ∷ K.Or ∷ K.And ∷ K.Add ∷ K.Dash ∷ K.Mul
    ∷ K.Div ∷ K.Modulo ∷ K.Neg ∷ []

abbrev pub every : (Kind → Bool) → List Kind → Bool
every p [] = true
every p (k ∷ ks) = p k && every p ks

abbrev pub some : (Kind → Bool) → List Kind → Bool
some p [] = false
some p (k ∷ ks) = p k || some p ks

-- no kind is in both
abbrev pub apart : (Kind → Bool) → (Kind → Bool) → Bool
apart p q = every (λ k. not (p k && q k)) kinds

-- each kind of the first is in the second
abbrev pub within : (Kind → Bool) → (Kind → Bool) → Bool
within p q = every (λ k. not (p k) || q k) kinds

abbrev pub Stands : ℕ → List Kind → Kind → Type 0
Stands n [] k = ⊥
Stands zero (x ∷ xs) k = x ≡ k
Stands (suc n) (x ∷ xs) k = Stands n xs k

every_at : (p : Kind → Bool) (xs : List Kind) → IsTrue (every p xs) → (n : ℕ) (k : Kind)
    → Stands n xs k → IsTrue (p k)
every_at p [] h n k s = absurd s
every_at p (x ∷ xs) h zero k s = rw s at (and_first (p x) (every p xs) h)
every_at p (x ∷ xs) h (suc n) k s = every_at p xs (and_second (p x) (every p xs) h) n k s

-- each kind is in the list
listed : (k : Kind) → Stands (code k) kinds k
listed K.True = refl
listed k = refl

pub every_kind : (p : Kind → Bool) → IsTrue (every p kinds) → (k : Kind) → IsTrue (p k)
every_kind p h k = every_at p kinds h (code k) k (listed k)

pub apart_at : (p q : Kind → Bool) → IsTrue (apart p q) → (k : Kind) → IsTrue (p k) → q k ≡ false
apart_at p q h k i =
    and_second_false (p k) (q k) (not-true (p k && q k) (every_kind (λ k. not (p k && q k)) h k)) i

pub within_at : (p q : Kind → Bool) → IsTrue (within p q) → (k : Kind) → IsTrue (p k) → IsTrue (q k)
within_at p q h k i = implied (p k) (q k) (every_kind (λ k. not (p k) || q k) h k) i

some_step : (p : Kind → Bool) (x : Kind) (xs : List Kind)
    → (IsTrue (some p xs) → (k : Kind) × IsTrue (p k)) → (b : Bool) → p x ≡ b
    → IsTrue (p x || some p xs) → (k : Kind) × IsTrue (p k)
some_step p x xs again true e h = (x, e)
some_step p x xs again false e h = again (rw e at h)

pub some_kind : (p : Kind → Bool) (xs : List Kind) → IsTrue (some p xs) → (k : Kind) × IsTrue (p k)
some_kind p [] h = absurd cc
some_kind p (x ∷ xs) h = some_step p x xs (λ i. some_kind p xs i) (p x) refl h
