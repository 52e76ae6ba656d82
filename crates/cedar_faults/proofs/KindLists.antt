-- Lists of kinds.
use Rattle.std.specs.Prelude.{◌≡◌, ◌+◌, ℕ, zero, suc, Bool, true, false, ◌&&◌, nat_lt, List, [], ◌∷◌, ◌⊎◌, IsTrue, Contains, map}
use Rattle.std.specs.List.{filter, IsAnyAnswer}
use Rattle.std.specs.List.Sorted.{IsStrictlyIncreasing}
use Rattle.std.specs.Set.{is_member}
use Rattle.std.specs.Bool.{Decides}
use Rattle.std.proofs.Common.{refl, sym, ap, ◌∙◌, subst, cond, inl, inr, get_or, arith}
use Rattle.std.proofs.lemmas.List.Elements.{contains_decides, Decides-contains, Contains-append_left, Contains-append_right, Contains-append_cases}
use Rattle.std.proofs.lemmas.List.Kept.{IsStrictlyIncreasing-filter}
use Rattle.std.proofs.lemmas.Map.Made.{is_member-Decides}
use Rattle.std.proofs.lemmas.Bool.Decides.{nat_tests}
use denote.Enum.Bare.{sameb}
use Rattle.cedar_tokens.specs.declared.kind.Kind.{Kind}
use Rattle.cedar_tokens.specs.contracts.kind.Kind.{the_type}
use Rattle.cedar_tokens.specs.declared.kind.Kind.TheVariants as K
use Rattle.cedar_tokens.specs.Kinds.{is, code}
use Rattle.cedar_grammar.proofs.KindSets.{every_kind}
use Rattle.cedar_grammar.proofs.Booleans.{and_first as and_left, and_second as and_right}
use Rattle.cedar_reading.proofs.Steps.{kind_test, kind_is, is_itself}
use Rattle.cedar_faults.specs.Samples.{all_kinds}

is_decides : (a b : Kind) → Decides (is a b) (a ≡ b)
is_decides a b = (λ e. kind_is a b e, λ e. is_itself a b e)

same_decides : (a b : Kind) → Decides (sameb the_type a b) (a ≡ b)
same_decides a b =
    (λ e. kind_is a b (sym (kind_test a b) ∙ e), λ e. kind_test a b ∙ is_itself a b e)

-- what `contains` answers
pub contains_answer : (xs : List Kind) (k : Kind) (r : Bool)
    → IsAnyAnswer (λ y t. sameb the_type y k ≡ t) xs r → Decides r (Contains xs k)
contains_answer xs k r e =
    Decides-contains xs k r (contains_decides (sameb the_type) same_decides xs k r e)

-- each kind is in the list of all
pub all_listed : (k : Kind) → Contains all_kinds k
all_listed k =
    (is_member-Decides is_decides all_kinds k).0 (every_kind (λ q. is_member is all_kinds q) refl k)

-- what a filter keeps
cons_here : (x : Kind) (xs : List Kind) → Contains (x ∷ xs) x
cons_here x xs = Contains-append_left (x ∷ []) xs x (0, omega arith, refl)

cons_there : (x : Kind) (xs : List Kind) (k : Kind) → Contains xs k → Contains (x ∷ xs) k
cons_there x xs k c = Contains-append_right (x ∷ []) xs k c

one_is : (x k : Kind) → Contains (x ∷ []) k → x ≡ k
one_is x k (zero, l, e) = e
one_is x k (suc n, l, e) = absurd (omega (arith, l))

cons_cases : (x : Kind) (xs : List Kind) (k : Kind) → Contains (x ∷ xs) k → (x ≡ k) ⊎ Contains xs k
cons_cases x xs k c = go (Contains-append_cases (x ∷ []) xs k c)
  where
    go : Contains (x ∷ []) k ⊎ Contains xs k → (x ≡ k) ⊎ Contains xs k
    go (inl h) = inl (one_is x k h)
    go (inr h) = inr h

none_in : (k : Kind) → Contains {X = Kind} [] k → ⊥
none_in k (n, l, e) = omega (arith, l)

pub filter_has : (p : Kind → Bool) (xs : List Kind) (k : Kind) → Contains xs k → IsTrue (p k)
    → Contains (filter p xs) k
filter_has p [] k c h = absurd (none_in k c)
filter_has p (x ∷ xs) k c h = go (p x) refl (cons_cases x xs k c) (λ i. filter_has p xs k i h)
  where
    go : (b : Bool) → p x ≡ b → (x ≡ k) ⊎ Contains xs k → (Contains xs k → Contains (filter p xs) k)
        → Contains (cond b (x ∷ filter p xs) (filter p xs)) k
    go true e (inl i) more = subst (λ z. Contains (x ∷ filter p xs) z) i (cons_here x (filter p xs))
    go true e (inr i) more = cons_there x (filter p xs) k (more i)
    go false e (inl i) more = absurd (let z : false ≡ true = sym e ∙ ap p i ∙ h in cc)
    go false e (inr i) more = more i

pub has_filter : (p : Kind → Bool) (xs : List Kind) (k : Kind) → Contains (filter p xs) k
    → IsTrue (p k)
has_filter p [] k c = absurd (none_in k c)
has_filter p (x ∷ xs) k c = go (p x) refl (λ i. has_filter p xs k i) c
  where
    go : (b : Bool) → p x ≡ b → (Contains (filter p xs) k → IsTrue (p k))
        → Contains (cond b (x ∷ filter p xs) (filter p xs)) k → IsTrue (p k)
    go true e more h = first (cons_cases x (filter p xs) k h)
      where
        first : (x ≡ k) ⊎ Contains (filter p xs) k → IsTrue (p k)
        first (inl i) = sym (ap p i) ∙ e
        first (inr i) = more i
    go false e more h = more h

-- a filter of all kinds is in order
abbrev kind_at : ℕ → Kind
kind_at n = get_or all_kinds n K.True

kind_at_code : (k : Kind) → kind_at (code k) ≡ k
kind_at_code k = kind_is (kind_at (code k)) k (every_kind (λ q. is (kind_at (code q)) q) refl k)

codes_filter : (p : Kind → Bool) (xs : List Kind)
    → map code (filter p xs) ≡ filter (λ n. p (kind_at n)) (map code xs)
codes_filter p [] = refl
codes_filter p (x ∷ xs) =
    go (p x) (p (kind_at (code x))) (ap p (kind_at_code x)) (codes_filter p xs)
  where
    go : (b c : Bool) → c ≡ b → map code (filter p xs) ≡ filter (λ n. p (kind_at n)) (map code xs)
        → map code (cond b (x ∷ filter p xs) (filter p xs)) ≡ cond c (code x
        ∷ filter (λ n. p (kind_at n)) (map code xs)) (filter (λ n. p (kind_at n)) (map code xs))
    go true true e ih = ap (λ z. code x ∷ z) ih
    go true false e ih = absurd cc
    go false true e ih = absurd cc
    go false false e ih = ih

abbrev rises : ℕ → List ℕ → Bool
rises x [] = true
rises x (y ∷ ys) = nat_lt x y && rises y ys

abbrev rises_from : List ℕ → Bool
rises_from [] = true
rises_from (x ∷ xs) = rises x xs

rising : (x : ℕ) (xs : List ℕ) → IsTrue (rises x xs) → IsStrictlyIncreasing (x ∷ xs)
rising x [] h k l = absurd (omega (arith, l))
rising x (y ∷ ys) h zero l =
    let t = and_left (nat_lt x y) (rises y ys) h in grind (arith, nat_tests)
rising x (y ∷ ys) h (suc k) l =
    let e : suc k + 1 ≡ suc (k + 1) = omega arith in
    rw e (rising y ys (and_right (nat_lt x y) (rises y ys) h) k (omega (arith, l)))

codes_rise : (xs : List ℕ) → IsTrue (rises_from xs) → IsStrictlyIncreasing xs
codes_rise [] h = λ k l. absurd (omega (arith, l))
codes_rise (x ∷ xs) h = rising x xs h

pub filter_ordered : (p : Kind → Bool) → IsStrictlyIncreasing (map code (filter p all_kinds))
filter_ordered p = rw (codes_filter p all_kinds) (IsStrictlyIncreasing-filter (λ n. p (kind_at n))
    (map code all_kinds) (codes_rise (map code all_kinds) refl))
