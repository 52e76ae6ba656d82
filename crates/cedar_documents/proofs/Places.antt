-- Tokens in order, looked for by their places.
use Rattle.std.proofs.Common.{◌≡◌, ℕ, zero, suc, ◌+◌, ◌-◌, ◌<◌, ◌≤◌, List, [], ◌∷◌, length, get_or, Bool, true, false, ◌==◌, ◌||◌, refl, sym, ap, ◌∙◌, arith}
use Rattle.std.specs.Prelude.{nat_le, nat_lt, ◌&&◌}
use Rattle.std.specs.List.{prefix_len}
use Rattle.std.specs.List.Sorted.{IsNonDecreasingBy, IsPartitionPoint}
use Rattle.std.proofs.lemmas.List.Sums.{prefix_len_is}
use Rattle.std.proofs.lemmas.Bool.Decides.{nat_tests}
use Rattle.cedar_tokens.specs.declared.token.WrappedToken.{WrappedToken}
use Rattle.cedar_layout.specs.Lookups.{AreInOrder}
use Rattle.cedar_layout.proofs.Halving.{OrderedFrom}
use Rattle.cedar_documents.specs.Found.{count_between, places, starts}

-- ---- how many tokens are before a place

starts_after : (q : ℕ) (ts : List WrappedToken) (k : ℕ) (d : WrappedToken) → OrderedFrom q ts
    → k < length ts
    → (q ≤ (get_or ts k d).span.start) × ((get_or ts k d).span.start < (get_or ts k d).span.end)
starts_after q [] k d o h = absurd (omega arith)
starts_after q (t ∷ ts) zero d o h = (o.0, o.1)
starts_after q (t ∷ ts) (suc k) d o h =
    let i = starts_after t.span.end ts k d o.2 (omega arith) in (omega (arith, o.0, o.1, i.0), i.1)

rise : (q : ℕ) (ts : List WrappedToken) (i j : ℕ) (d : WrappedToken) → OrderedFrom q ts → i ≤ j
    → j < length ts → ((get_or ts i d).span.start ≤ (get_or ts j d).span.start)
    × ((get_or ts i d).span.end ≤ (get_or ts j d).span.end)
rise q [] i j d o l h = absurd (omega arith)
rise q (t ∷ ts) zero zero d o l h = (omega arith, omega arith)
rise q (t ∷ ts) zero (suc j) d o l h =
    let b = starts_after t.span.end ts j d o.2 (omega arith) in
    (omega (arith, b.0, o.1), omega (arith, b.0, b.1))
rise q (t ∷ ts) (suc i) zero d o l h = absurd (omega arith)
rise q (t ∷ ts) (suc i) (suc j) d o l h = rise t.span.end ts i j d o.2 (omega arith) (omega arith)

pub starts_rise : (ts : List WrappedToken) → AreInOrder ts
    → IsNonDecreasingBy (λ t. t.span.start) ts
starts_rise ts o i j d l h = (rise 0 ts i j d o l h).0

pub ends_rise : (ts : List WrappedToken) → AreInOrder ts → IsNonDecreasingBy (λ t. t.span.end) ts
ends_rise ts o i j d l h = (rise 0 ts i j d o l h).1

pub prefix_from_point : {X : Type 0} (p : X → Bool) (xs : List X) (r : ℕ) → r ≤ length xs
    → IsPartitionPoint (λ x. p x ≡ true) (λ x. p x ≡ false) xs r → r ≡ prefix_len p xs
prefix_from_point p [] r l h = omega arith
prefix_from_point p (x ∷ xs) r l h = sym (prefix_len_is p (x ∷ xs) r x l
    (λ k i. h.0 k x (omega arith) i) (λ i. h.1 r x (omega arith) i))

-- how many start before a byte, and how many end at or before it
abbrev pub before : ℕ → List WrappedToken → ℕ
before p ts = prefix_len (λ t. nat_lt t.span.start p) ts

abbrev pub until : ℕ → List WrappedToken → ℕ
until q ts = prefix_len (λ t. nat_le t.span.end q) ts

-- ---- whether a token starts at a byte

none_later : (p q : ℕ) (ts : List WrappedToken) → OrderedFrom q ts → p < q
    → starts p (places ts) ≡ false
none_later p q [] o l = refl
none_later p q (t ∷ ts) o l =
    let e : (t.span.start == p) ≡ false = let i = o.0 in grind (arith, nat_tests) in
    rw e (none_later p t.span.end ts o.2 (let i = o.0 in let j = o.1 in omega (arith, i, j)))

pub starts_none : (p q : ℕ) (ts : List WrappedToken) → OrderedFrom q ts
    → length ts ≤ before p ts → starts p (places ts) ≡ false
starts_none p q [] o l = refl
starts_none p q (t ∷ ts) o l =
    go (nat_lt t.span.start p) refl (starts_none p t.span.end ts o.2)
  where
    go : (b : Bool) → nat_lt t.span.start p ≡ b
        → (length ts ≤ before p ts → starts p (places ts) ≡ false)
        → starts p (places (t ∷ ts)) ≡ false
    go true e h =
        let m : suc (length ts) ≤ 1 + before p ts = rw e at l in
        let f : (t.span.start == p) ≡ false = grind (arith, nat_tests) in
        rw f (h (omega (arith, m)))
    go false e h = absurd (let m : suc (length ts) ≤ 0 = rw e at l in omega (arith, m))

pub starts_some : (p q : ℕ) (ts : List WrappedToken) (d : WrappedToken) → OrderedFrom q ts
    → before p ts < length ts → starts p (places ts) ≡ ((get_or ts (before p ts) d).span.start == p)
starts_some p q [] d o l = absurd (omega arith)
starts_some p q (t ∷ ts) d o l =
    go (nat_lt t.span.start p) refl (starts_some p t.span.end ts d o.2)
  where
    here : (b : Bool) → (t.span.start == p) ≡ b → nat_lt t.span.start p ≡ false
        → starts p (places (t ∷ ts)) ≡ b
    here true e f = ap (λ z. z || starts p (places ts)) e
    here false e f = rw e (none_later p t.span.end ts o.2 (let j = o.1 in grind (arith, nat_tests)))

    go : (b : Bool) → nat_lt t.span.start p ≡ b
        → (before p ts < length ts
        → starts p (places ts) ≡ ((get_or ts (before p ts) d).span.start == p))
        → starts p (places (t ∷ ts)) ≡ ((get_or (t ∷ ts) (before p (t ∷ ts)) d).span.start == p)
    go true e h =
        let m : 1 + before p ts < suc (length ts) = rw e at l in
        let f : (t.span.start == p) ≡ false = grind (arith, nat_tests) in
        let n : suc (before p ts) ≡ 1 + before p ts = omega arith in
        rw (e, f) (h (omega (arith, m)) ∙ ap (λ k. (get_or (t ∷ ts) k d).span.start == p) n)
    go false e h = rw e (here (t.span.start == p) refl e)

-- the token that starts at a byte is the first that starts at or after it
pub first_from : (p q : ℕ) (ts : List WrappedToken) (i : ℕ) (d : WrappedToken) → OrderedFrom q ts
    → i < length ts → (get_or ts i d).span.start ≡ p → i ≡ before p ts
first_from p q [] i d o l e = absurd (omega arith)
first_from p q (t ∷ ts) zero d o l e =
    let f : nat_lt t.span.start p ≡ false = grind (arith, nat_tests) in rw f refl
first_from p q (t ∷ ts) (suc i) d o l e =
    let b = starts_after t.span.end ts i d o.2 (omega arith) in
    let f : nat_lt t.span.start p ≡ true =
    let j = b.0 in let k = o.1 in grind (arith, nat_tests) in
    let h = first_from p t.span.end ts i d o.2 (omega arith) e in
    rw f (omega (arith, h))

-- ---- how many tokens are between two bytes

none_within : (p q s : ℕ) (ts : List WrappedToken) → OrderedFrom s ts → q < s
    → count_between p q (places ts) ≡ 0
none_within p q s [] o l = refl
none_within p q s (t ∷ ts) o l =
    let i = o.0 in
    let j = o.1 in
    let e : (nat_le p t.span.start && nat_le t.span.end q) ≡ false = grind (arith, nat_tests) in
    rw e (none_within p q t.span.end ts o.2 (omega (arith, i, j, l)))

all_from : (p q s : ℕ) (ts : List WrappedToken) → OrderedFrom s ts → p ≤ s
    → count_between p q (places ts) ≡ until q ts
all_from p q s [] o l = refl
all_from p q s (t ∷ ts) o l = go (nat_le t.span.end q) refl
    (all_from p q t.span.end ts o.2 (let i = o.0 in let j = o.1 in omega (arith, i, j, l)))
  where
    from : nat_le p t.span.start ≡ true
    from = let i = o.0 in grind (arith, nat_tests)

    go : (b : Bool) → nat_le t.span.end q ≡ b → count_between p q (places ts) ≡ until q ts
        → count_between p q (places (t ∷ ts)) ≡ until q (t ∷ ts)
    go true e h = rw (from, e) (omega (arith, h))
    go false e h = rw (from, e) (none_within p q t.span.end ts o.2 (grind (arith, nat_tests)))

pub count_is : (p q s : ℕ) (ts : List WrappedToken) → OrderedFrom s ts
    → count_between p q (places ts) ≡ until q ts - before p ts
count_is p q s [] o = refl
count_is p q s (t ∷ ts) o = go (nat_lt t.span.start p) (nat_le t.span.end q) refl refl
    (count_is p q t.span.end ts o.2)
  where
    go : (b c : Bool) → nat_lt t.span.start p ≡ b → nat_le t.span.end q ≡ c
        → count_between p q (places ts) ≡ until q ts - before p ts
        → count_between p q (places (t ∷ ts)) ≡ until q (t ∷ ts) - before p (t ∷ ts)
    go true true e f h =
        let g : nat_le p t.span.start ≡ false = grind (arith, nat_tests) in
        rw (g, e, f) (omega (arith, h))
    go true false e f h =
        let g : nat_le p t.span.start ≡ false = grind (arith, nat_tests) in
        rw (g, e, f) (let k = none_within p q t.span.end ts o.2 (grind (arith, nat_tests)) in
        omega (arith, k))
    go false c e f h = rw e (let k = all_from p q t.span.start (t ∷ ts)
        (omega arith, o.1, o.2) (grind (arith, nat_tests)) in omega (arith, k))
