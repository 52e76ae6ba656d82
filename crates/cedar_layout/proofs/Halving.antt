-- Binary search among tokens in order.
use Rattle.std.proofs.Common.{◌≡◌, ℕ, zero, suc, ◌+◌, ◌^◌, ◌<◌, ◌≤◌, List, [], ◌∷◌, map, Bool, true, false, cond, not, ◌==◌, ◌≢◌, ◌⊎◌, inl, inr, Some, None, length, get_or, refl, ap, sym, ◌∙◌, arith}
use Rattle.std.proofs.Math.Nat.{pow-succ'}
use Rattle.std.specs.List.{position, position_or_len}
use Rattle.std.specs.Prelude.{nat_le, nat_lt}
use Rattle.std.proofs.lemmas.List.Sums.{position_or_len_is, prefix_len_passes}
use Rattle.std.proofs.lemmas.List.{get_or_default}
use Rattle.std.proofs.lemmas.Bool.Decides.{nat_tests}
use Rattle.std.proofs.lemmas.List.Quantifiers.{position-Some}
use Rattle.std.proofs.lemmas.Bool.{ne_eqb, eq-eqb, not-true, leb-false, leb-true}
use Rattle.cedar_tokens.specs.Places.{InOrderFrom}
use Rattle.cedar_tokens.specs.declared.token.Span.{Span}
use Rattle.cedar_tokens.specs.declared.token.WrappedToken.{WrappedToken}
use Rattle.cedar_layout.specs.Lookups.{AreInOrder}
use Rattle.cedar_layout.specs.Inside.Halving.{edge_of}
use Rattle.cedar_layout.specs.declared.utils.lookups.Edge.{Edge}
use Rattle.cedar_layout.specs.declared.utils.lookups.Edge.TheVariants.{Start, End}

-- the places of the tokens are in order from p on
abbrev pub OrderedFrom : ℕ → List WrappedToken → Type 0
OrderedFrom p ts = InOrderFrom p (map (λ t. t.span) ts)

starts_after : (p : ℕ) (ts : List WrappedToken) (k : ℕ) (d : WrappedToken) → OrderedFrom p ts
    → k < length ts
    → (p ≤ (get_or ts k d).span.start) × ((get_or ts k d).span.start < (get_or ts k d).span.end)
starts_after p [] k d o h = absurd (omega arith)
starts_after p (t ∷ ts) zero d o h = (o.0, o.1)
starts_after p (t ∷ ts) (suc k) d o h =
    let i = starts_after t.span.end ts k d o.2 (omega arith) in (omega (arith, o.0, o.1, i.0), i.1)

edge_within : (e : Edge) (s : Span) → s.start < s.end
    → (s.start ≤ edge_of e s) × (edge_of e s ≤ s.end)
edge_within Start s h = (omega arith, omega arith)
edge_within End s h = (omega arith, omega arith)

-- the edge of a later token is further right
pub edges_grow : (e : Edge) (p : ℕ) (ts : List WrappedToken) (j k : ℕ) (c d : WrappedToken)
    → OrderedFrom p ts → j ≤ k → k < length ts
    → edge_of e (get_or ts j c).span ≤ edge_of e (get_or ts k d).span
edges_grow e p [] j k c d o l h = absurd (omega arith)
edges_grow e p (t ∷ ts) zero zero c d o l h = omega arith
edges_grow e p (t ∷ ts) zero (suc k) c d o l h =
    let b = starts_after t.span.end ts k d o.2 (omega arith) in
    let x = edge_within e t.span o.1 in
    let y = edge_within e (get_or ts k d).span b.1 in
    omega (arith, b.0, x.1, y.0)
edges_grow e p (t ∷ ts) (suc j) zero c d o l h = absurd (omega arith)
edges_grow e p (t ∷ ts) (suc j) (suc k) c d o l h =
    edges_grow e t.span.end ts j k c d o.2 (omega arith) (omega arith)

pub below_middle : (e : Edge) (at : ℕ) (ts : List WrappedToken) (m : ℕ) (x : WrappedToken)
    → AreInOrder ts → m < length ts → edge_of e (get_or ts m x).span < at
    → (k : ℕ) (d : WrappedToken) → k < m + 1 → edge_of e (get_or ts k d).span < at
below_middle e at ts m x o h b k d l =
    let g = edges_grow e 0 ts k m d x o (omega arith) h in omega (arith, g, b)

pub above_middle : (e : Edge) (at : ℕ) (ts : List WrappedToken) (m : ℕ) (x : WrappedToken)
    → AreInOrder ts → m < length ts → at ≤ edge_of e (get_or ts m x).span
    → (k : ℕ) (d : WrappedToken) → m ≤ k → k < length ts → at ≤ edge_of e (get_or ts k d).span
above_middle e at ts m x o h b k d l i =
    let g = edges_grow e 0 ts m k x d o l i in omega (arith, g, b)

-- one more step leaves half of the places, and so one binary digit less
pub halved : (s t e steps b : ℕ) → 0 < s → t + t ≤ s → s < 2 ^ e → steps + e ≤ b
    → (f : ℕ) × (t < 2 ^ f) × (steps + 1 + f ≤ b)
halved s t zero steps b z h l m = absurd (omega arith)
halved s t (suc e) steps b z h l m = let p = pow-succ' 2 e in (e, omega (arith, p), omega arith)

-- the first place that passes
pub first_passing : {X : Type 0} (p : X → Bool) (xs : List X) (i : ℕ) → i ≤ length xs
    → ((k : ℕ) (d : X) → k < i → p (get_or xs k d) ≡ false)
    → ((d : X) → i < length xs → p (get_or xs i d) ≡ true) → i ≡ position_or_len p xs
first_passing p [] i l f t = omega arith
first_passing p (x ∷ xs) i l f t = sym (position_or_len_is p (x ∷ xs) i x l (λ k h. f k x h) (t x))

-- ---- the token with an edge at a place, where the first with its edge at or after it is known

some_at : {X : Type 0} (p : X → Bool) (xs : List X) (i : ℕ) → i < length xs
    → i ≡ position_or_len p xs → Some i ≡ position p xs
some_at p xs i l e = go (nat_lt (position_or_len p xs) (length xs)) refl
  where
    go : (b : Bool) → nat_lt (position_or_len p xs) (length xs) ≡ b
        → Some i ≡ cond b (Some (position_or_len p xs)) None
    go true q = ap (λ n. Some n) e
    go false q = absurd (let h : length xs ≤ position_or_len p xs = grind (arith, nat_tests) in
        omega (arith, h, l, e))

none_at : {X : Type 0} (p : X → Bool) (xs : List X) → length xs ≡ position_or_len p xs
    → None ≡ position p xs
none_at p xs e = go (nat_lt (position_or_len p xs) (length xs)) refl
  where
    go : (b : Bool) → nat_lt (position_or_len p xs) (length xs) ≡ b
        → None ≡ cond b (Some (position_or_len p xs)) None
    go true q = absurd
        (let h : position_or_len p xs < length xs = grind (arith, nat_tests) in omega (arith, h, e))
    go false q = refl

pub none_passes : {X : Type 0} (p : X → Bool) (xs : List X) → position p xs ≡ None → (k : ℕ) (d : X)
    → k < length xs → p (get_or xs k d) ≡ false
none_passes p xs e k d h = not-true (p (get_or xs k d)) (prefix_len_passes (λ x. not (p x)) xs k d
    (far (nat_lt (position_or_len p xs) (length xs)) refl e))
  where
    far : (b : Bool) → nat_lt (position_or_len p xs) (length xs) ≡ b
        → cond b (Some (position_or_len p xs)) None ≡ None → k < position_or_len p xs
    far true q n = cc
    far false q n = grind (arith, nat_tests)

pub edge_found : (e : Edge) (at : ℕ) (ts : List WrappedToken) (i : ℕ) (x : WrappedToken)
    → Some i ≡ position (λ t. nat_le at (edge_of e t.span)) ts → edge_of e (get_or ts i x).span ≡ at
    → Some i ≡ position (λ t. edge_of e t.span == at) ts
edge_found e at ts i x q m =
    let p = position-Some (λ t. nat_le at (edge_of e t.span)) ts i x (sym q) in
    let before : (k : ℕ) (d : WrappedToken) → k < i
    → (edge_of e (get_or ts k d).span == at) ≡ false =
    λ k d l. let r = position-Some (λ t. nat_le at (edge_of e t.span)) ts i d (sym q) in
    let b = leb-false at (edge_of e (get_or ts k d).span) (r.2 k l) in
    ne_eqb (edge_of e (get_or ts k d).span) at (omega (arith, b)) in
    let here : (d : WrappedToken) → i < length ts → (edge_of e (get_or ts i d).span == at) ≡ true =
    λ d l. let same : edge_of e (get_or ts i d).span ≡ edge_of e (get_or ts i x).span =
    ap (λ t. edge_of e t.span) (get_or_default ts i d x l) in
    eq-eqb (edge_of e (get_or ts i d).span) at (same ∙ m) in
    some_at (λ t. edge_of e t.span == at) ts i p.0
    (first_passing (λ t. edge_of e t.span == at) ts i (omega (arith, p.0)) before here)

pub edge_missed : (e : Edge) (at : ℕ) (ts : List WrappedToken) (i : ℕ) (x : WrappedToken)
    → AreInOrder ts → Some i ≡ position (λ t. nat_le at (edge_of e t.span)) ts
    → edge_of e (get_or ts i x).span ≢ at → None ≡ position (λ t. edge_of e t.span == at) ts
edge_missed e at ts i x o q m =
    let none : (k : ℕ) (d : WrappedToken) → k < length ts
    → (edge_of e (get_or ts k d).span == at) ≡ false =
    λ k d l. ne_eqb (edge_of e (get_or ts k d).span) at (apart k d l (split k)) in
    none_at (λ t. edge_of e t.span == at) ts (first_passing (λ t. edge_of e t.span == at) ts
    (length ts) (omega arith) none (λ d l. absurd (omega (arith, l))))
  where
    split : (k : ℕ) → (k < i) ⊎ (i ≤ k)
    split k = grind arith

    apart : (k : ℕ) (d : WrappedToken) → k < length ts → (k < i) ⊎ (i ≤ k)
        → edge_of e (get_or ts k d).span ≢ at
    apart k d l (inl a) =
        let r = position-Some (λ t. nat_le at (edge_of e t.span)) ts i d (sym q) in
        let b = leb-false at (edge_of e (get_or ts k d).span) (r.2 k a) in
        omega (arith, b)
    apart k d l (inr a) =
        let r = position-Some (λ t. nat_le at (edge_of e t.span)) ts i x (sym q) in
        let b = leb-true at (edge_of e (get_or ts i x).span) r.1 in
        let g = edges_grow e 0 ts i k x d o a l in
        omega (arith, b, g, m)

pub edge_absent : (e : Edge) (at : ℕ) (ts : List WrappedToken)
    → None ≡ position (λ t. nat_le at (edge_of e t.span)) ts
    → None ≡ position (λ t. edge_of e t.span == at) ts
edge_absent e at ts q =
    let none : (k : ℕ) (d : WrappedToken) → k < length ts
    → (edge_of e (get_or ts k d).span == at) ≡ false =
    λ k d l. let b = leb-false at (edge_of e (get_or ts k d).span)
    (none_passes (λ t. nat_le at (edge_of e t.span)) ts (sym q) k d l) in
    ne_eqb (edge_of e (get_or ts k d).span) at (omega (arith, b)) in
    none_at (λ t. edge_of e t.span == at) ts (first_passing (λ t. edge_of e t.span == at) ts
    (length ts) (omega arith) none (λ d l. absurd (omega (arith, l))))
