-- The tokens between two bytes among others.
use Rattle.std.proofs.Common.{◌≡◌, ℕ, ◌≤◌, List, [], ◌∷◌, ◌++◌, map, refl, sym, ap, ◌∙◌, arith}
use Rattle.std.specs.Prelude.{IsTrue, IsFalse}
use Rattle.std.specs.List.{AllByRecursion, filter}
use Rattle.std.proofs.lemmas.Bool.Decides.{nat_tests}
use Rattle.std.proofs.lemmas.List.{append_assoc, append-nil}
use Rattle.cedar_tokens.specs.Places.{InOrderFrom}
use Rattle.cedar_tokens.specs.declared.token.Span.{Span}
use Rattle.cedar_layout.specs.Lookups.{Shown, emptied, stands_in, emptied_in}

-- ---- tokens in order

abbrev places : List Shown → List Span
places ts = map (λ t. t.span) ts

starts_late : (p : ℕ) (b : List Shown) (x : Shown) (a : List Shown)
    → InOrderFrom p (places (b ++ (x ∷ a))) → p ≤ x.span.start
starts_late p [] x a h = h.0
starts_late p (y ∷ b) x a h =
    let i = starts_late y.span.end b x a h.2 in
    let j = h.0 in
    let k = h.1 in
    omega (arith, i, j, k)

-- ---- the tokens in a span

module _ (s : Span) where
  abbrev Outside : Shown → Type 0
  Outside t = IsFalse (stands_in s t)

  abbrev Inside : Shown → Type 0
  Inside t = IsTrue (stands_in s t)

  none_kept : (b c : List Shown) → AllByRecursion Outside b
      → filter (stands_in s) (b ++ c) ≡ filter (stands_in s) c
  none_kept [] c h = refl
  none_kept (y ∷ b) c h = rw (h.0) (none_kept b c h.1)

  all_kept : (b c : List Shown) → AllByRecursion Inside b
      → filter (stands_in s) (b ++ c) ≡ b ++ filter (stands_in s) c
  all_kept [] c h = refl
  all_kept (y ∷ b) c h = rw (h.0) (ap (λ z. y ∷ z) (all_kept b c h.1))

  none_emptied : (b c : List Shown) → AllByRecursion Outside b
      → emptied_in s (b ++ c) ≡ b ++ emptied_in s c
  none_emptied [] c h = refl
  none_emptied (y ∷ b) c h = rw (h.0) (ap (λ z. y ∷ z) (none_emptied b c h.1))

  all_emptied : (b c : List Shown) → AllByRecursion Inside b
      → emptied_in s (b ++ c) ≡ map emptied b ++ emptied_in s c
  all_emptied [] c h = refl
  all_emptied (y ∷ b) c h = rw (h.0) (ap (λ z. emptied y ∷ z) (all_emptied b c h.1))

  -- tokens before the one that starts where the span does
  before_it : (p : ℕ) (b c : List Shown) (x : Shown) → x.span.start ≡ s.start
      → InOrderFrom p (places (b ++ (x ∷ c))) → AllByRecursion Outside b
  before_it p [] c x e h = tt
  before_it p (y ∷ b) c x e h = (
    let i = starts_late y.span.end b x c h.2 in let j = h.1 in grind (arith, nat_tests),
    before_it y.span.end b c x e h.2,
  )

  -- tokens up to the one that starts where the span ends
  within_it : (p : ℕ) (b c : List Shown) (m : Shown) → s.start ≤ p → m.span.start ≡ s.end
      → InOrderFrom p (places (b ++ (m ∷ c))) → AllByRecursion Inside b
  within_it p [] c m l e h = tt
  within_it p (y ∷ b) c m l e h =
      let i = starts_late y.span.end b m c h.2 in
      let j = h.0 in
      let k = h.1 in
      (grind (arith, nat_tests), within_it y.span.end b c m (omega (arith, l, j, k)) e h.2)

  after_it : (p : ℕ) (b : List Shown) → s.end ≤ p → InOrderFrom p (places b)
      → AllByRecursion Outside b
  after_it p [] l h = tt
  after_it p (y ∷ b) l h =
      let j = h.0 in
      let k = h.1 in
      (grind (arith, nat_tests), after_it y.span.end b (omega (arith, l, j, k)) h.2)

  rest_of : (p : ℕ) (b c : List Shown) (x : Shown) → InOrderFrom p (places (b ++ (x ∷ c)))
      → InOrderFrom x.span.start (places (x ∷ c))
  rest_of p [] c x h = (omega arith, h.1, h.2)
  rest_of p (y ∷ b) c x h = rest_of y.span.end b c x h.2

  nothing_more : (b : List Shown) → AllByRecursion Outside b
      → (filter (stands_in s) b ≡ []) × (emptied_in s b ≡ b)
  nothing_more [] h = (refl, refl)
  nothing_more (y ∷ b) h =
      let r = nothing_more b h.1 in (rw (h.0) r.0, rw (h.0) (ap (λ z. y ∷ z) r.1))

  module _ (b ss a : List Shown) (x m : Shown) (first : x.span.start ≡ s.start)
      (last : m.span.start ≡ s.end)
      (order : InOrderFrom 0 (places (b ++ (x ∷ (ss ++ (m ∷ a)))))) where
    abbrev from_first : InOrderFrom x.span.start (places (x ∷ (ss ++ (m ∷ a))))
    from_first = rest_of 0 b (ss ++ (m ∷ a)) x order

    outside_before : AllByRecursion Outside b
    outside_before = before_it 0 b (ss ++ (m ∷ a)) x first order

    inside : AllByRecursion Inside (x ∷ ss)
    inside = within_it x.span.start (x ∷ ss) a m (omega (arith, first)) last from_first

    outside_after : AllByRecursion Outside (m ∷ a)
    outside_after = after_it m.span.start (m ∷ a) (omega (arith, last))
        (rest_of x.span.start (x ∷ ss) a m from_first)

    pub those_between : (filter (stands_in s) (b ++ (x ∷ (ss ++ (m ∷ a)))) ≡ x ∷ ss)
        × (emptied_in s (b ++ (x ∷ (ss ++ (m ∷ a)))) ≡ (b ++ map emptied (x ∷ ss)) ++ (m ∷ a))
    those_between =
        let r = nothing_more (m ∷ a) outside_after in (
          none_kept b (x ∷ (ss ++ (m ∷ a))) outside_before ∙ all_kept (x ∷ ss) (m ∷ a) inside
              ∙ ap (λ z. (x ∷ ss) ++ z) r.0 ∙ append-nil (x ∷ ss),
          none_emptied b (x ∷ (ss ++ (m ∷ a))) outside_before ∙ ap (λ z. b ++ z)
              (all_emptied (x ∷ ss) (m ∷ a) inside ∙ ap (λ z. map emptied (x ∷ ss) ++ z) r.1)
              ∙ sym (append_assoc b (map emptied (x ∷ ss)) (m ∷ a)),
        )
