-- Hunks of changes.
use Rattle.std.proofs.Common.{◌≡◌, ◌∙◌, ◌⊎◌, ◌++◌, ◌∷◌, ◌+◌, ◌-◌, ◌<◌, ◌≤◌, ◌^◌, [], ℕ, List, Bool, true, false, Some, add-zero, ap, arith, cond, count_by, get_or, inl, inr, length, length-take-le, refl, subst, sym, take}
use Rattle.std.specs.Prelude.{◌↔◌, min, slice_get}
use Rattle.std.specs.List.{All, AllPairs, Any}
use Rattle.std.proofs.lemmas.Bool.{cases_lt}
use Rattle.std.proofs.lemmas.List.{get_or_append_left, length-append}
use Rattle.std.proofs.lemmas.List.Elements.{All-pop, All-push, All-weaker}
use Rattle.std.proofs.lemmas.List.Quantifiers.{Any-push, all_pairs_push}
use Rattle.std.proofs.lemmas.List.Sums.{count_by-le-length, count_by_more_no, count_by_more_yes}
use Rattle.std.proofs.lemmas.Option.{get_or_from_slice_get, slice_get_within}
use Rattle.std.proofs.Math.Seq.{get_or-append_seam}
use Rattle.cedar_files.specs.declared.changes.Change.{Change}
use Rattle.cedar_files.specs.declared.hunks.Hunk.{Hunk}
use Rattle.cedar_files.specs.declared.hunks.Passed.{Passed}
use Rattle.cedar_files.specs.Hunks.{Passes, is_new, is_old, AreBefore, AreHunksOf, AreInOrder, IsChangedAt, IsIn, IsShown}

module _ {X : Type 0} (xs : List X) (y : X) where
  longer : length (xs ++ y ∷ []) ≡ length xs + 1
  longer = length-append xs (y ∷ [])

  -- one of them, or the last
  pub any_last : (P : X → Type 0) → Any P (xs ++ y ∷ []) ↔ (Any P xs ⊎ P y)
  any_last P = (
    λ (k, x, less, at, p). elim (cases_lt k (length xs)) [
      | inl before ↦ inl (k, x, before, sym (get_or_append_left xs (y ∷ []) x k before) ∙ at, p)
      | inr after ↦
          let same : k ≡ length xs = omega (arith, less, after, longer) in
          inr (subst P (sym at ∙ ap (λ n. get_or (xs ++ y ∷ []) n x) same ∙ get_or-append_seam xs y [] x) p)
    ],
    elim [
      | inl (k, x, less, at, p) ↦ (k, x, omega (arith, less, longer), get_or_append_left xs (y ∷ []) x k less ∙ at, p)
      | inr p ↦ Any-push P xs y p
    ],
  )

  module _ (R : X → X → Type 0) (pairs : AllPairs R (xs ++ y ∷ [])) where
    pub pairs_before : AllPairs R xs
    pairs_before i j d i_j less = subst (λ x. R x (get_or xs j d)) (get_or_append_left xs (y ∷ []) d i (omega (arith, i_j, less)))
        (subst (λ x. R (get_or (xs ++ y ∷ []) i d) x) (get_or_append_left xs (y ∷ []) d j less)
        (pairs i j d i_j (omega (arith, less, longer))))

    pub pairs_last : All (λ x. R x y) xs
    pairs_last k d less = subst (λ x. R x y) (get_or_append_left xs (y ∷ []) d k less)
        (subst (λ x. R (get_or (xs ++ y ∷ []) k d) x) (get_or-append_seam xs y [] d)
        (pairs k (length xs) d less (omega (arith, longer))))

-- a hunk that stands apart from the others
pub far_order : (hunks : List Hunk) (more : Hunk) → All (λ hunk. hunk.end < more.start) hunks → AreInOrder hunks → more.start < more.end
    → AreInOrder (hunks ++ more ∷ [])
far_order hunks more far order full = record {
  apart = all_pairs_push (λ first next. first.end < next.start) hunks more order.apart far;
  some = All-push (λ hunk. hunk.start < hunk.end) hunks more order.some full;
}

module _ (front : List Hunk) (last more : Hunk) where
  -- all end before it if the last one does
  pub all_far : AreInOrder (front ++ last ∷ []) → last.end < more.start → All (λ hunk. hunk.end < more.start) (front ++ last ∷ [])
  all_far order far =
      let whole = All-pop (λ hunk. hunk.start < hunk.end) (front ++ last ∷ []) front (Some last) refl order.some in
      All-push (λ hunk. hunk.end < more.start) front last
      (All-weaker (λ hunk. hunk.end < last.start) (λ hunk. hunk.end < more.start)
      (λ hunk ends. omega (arith, ends, whole.1, far)) front
      (pairs_last front last (λ first next. first.end < next.start) order.apart)) far

  abbrev pub joined : Hunk
  joined = record { start = last.start; end = more.end }

  module _ (before : AreBefore (front ++ last ∷ []) more) where
    starts : All (λ hunk. hunk.start ≤ more.start) front × (last.start ≤ more.start)
    starts = All-pop (λ hunk. hunk.start ≤ more.start) (front ++ last ∷ []) front (Some last) refl before.starts

    ends : All (λ hunk. hunk.end ≤ more.end) front × (last.end ≤ more.end)
    ends = All-pop (λ hunk. hunk.end ≤ more.end) (front ++ last ∷ []) front (Some last) refl before.ends

    -- the last hunk grows up to the end of one that it reaches
    pub grown_shown : more.start ≤ last.end → (n : ℕ)
        → IsShown (front ++ joined ∷ []) n ↔ (IsShown (front ++ last ∷ []) n ⊎ IsIn n more)
    grown_shown reaches n =
        let old = any_last front last (IsIn n) in
        let new = any_last front joined (IsIn n) in (
          λ shown. elim (new.0 shown) [
            | inl h ↦ inl (old.1 (inl h))
            | inr (from, to) ↦ elim (cases_lt n last.end) [
              | inl inside ↦ inl (old.1 (inr (from, inside)))
              | inr after ↦ inr (omega (arith, reaches, after), to)
            ]
          ],
          elim [
            | inl shown ↦ elim (old.0 shown) [
              | inl h ↦ new.1 (inl h)
              | inr (from, to) ↦ new.1 (inr (from, omega (arith, to, ends.1)))
            ]
            | inr (from, to) ↦ new.1 (inr (omega (arith, from, starts.1), to))
          ],
        )

    pub grown_order : AreInOrder (front ++ last ∷ []) → AreInOrder (front ++ joined ∷ [])
    grown_order order =
        let whole = All-pop (λ hunk. hunk.start < hunk.end) (front ++ last ∷ []) front (Some last) refl order.some in record {
          apart = all_pairs_push (λ first next. first.end < next.start) front joined
              (pairs_before front last (λ first next. first.end < next.start) order.apart)
              (pairs_last front last (λ first next. first.end < next.start) order.apart);
          some = All-push (λ hunk. hunk.start < hunk.end) front joined whole.0 (omega (arith, whole.1, ends.1));
        }

    pub grown_before : AreBefore (front ++ joined ∷ []) more
    grown_before = record {
      starts = All-push (λ hunk. hunk.start ≤ more.start) front joined starts.0 starts.1;
      ends = All-push (λ hunk. hunk.end ≤ more.end) front joined ends.0 (omega arith);
    }

module _ (changes : List Change) where
  -- one of the first n that doesn't keep a line is at most three from the k-th
  abbrev pub IsNearBelow : ℕ → ℕ → Type 0
  IsNearBelow n k = (m : ℕ) × (m < n) × IsChangedAt changes m × (m ≤ k + 3) × (k ≤ m + 3) × (k < length changes)

  -- these are the hunks of the first n changes, with what is shown after them
  pub record AreSoFar (n : ℕ) (hunks : List Hunk) : Type 0 where
    pub near : (k : ℕ) → IsShown hunks k ↔ IsNearBelow n k
    pub order : AreInOrder hunks
    pub starts : All (λ hunk. hunk.start ≤ n - 3) hunks
    pub ends : All (λ hunk. hunk.end ≤ n + 3) hunks
    pub inside : All (λ hunk. hunk.end ≤ length changes) hunks

  module _ (n : ℕ) (hunks : List Hunk) (so_far : AreSoFar n hunks) where
    -- the next of the changes keeps a line
    pub kept_next : ¬ (IsChangedAt changes n) → AreSoFar (n + 1) hunks
    kept_next kept = record {
      near = λ k. (
        λ shown.
            let (m, less, changed, low, high, inside) = (so_far.near k).0 shown in
            (m, omega (arith, less), changed, low, high, inside),
        λ (m, less, changed, low, high, inside). elim (cases_lt m n) [
          | inl before ↦ (so_far.near k).1 (m, before, changed, low, high, inside)
          | inr after ↦
              let same : m ≡ n = omega (arith, less, after) in
              absurd (kept (subst (λ i. IsChangedAt changes i) same changed))
        ],
      );
      order = so_far.order;
      starts = λ k d less. omega (arith, so_far.starts k d less);
      ends = λ k d less. omega (arith, so_far.ends k d less);
      inside = so_far.inside;
    }

    -- it doesn't, and a hunk is added around it
    pub changed_next : (more : Hunk) (new : List Hunk) → IsChangedAt changes n → more.start ≡ n - 3
        → more.end ≡ min (n + 4) (length changes)
        → ((k : ℕ) → IsShown new k ↔ (IsShown hunks k ⊎ IsIn k more)) → AreInOrder new → AreBefore new more → AreSoFar (n + 1) new
    changed_next more new changed start end shown order before = record {
      near = λ k. (
        λ h. elim ((shown k).0 h) [
          | inl old ↦
              let (m, less, there, low, high, inside) = (so_far.near k).0 old in
              (m, omega (arith, less), there, low, high, inside)
          | inr (from, to) ↦ (
            n,
            omega arith,
            changed,
            omega (arith, from, start),
            omega (arith, to, end),
            omega (arith, to, end),
          )
        ],
        λ (m, less, there, low, high, inside). elim (cases_lt m n) [
          | inl below ↦ (shown k).1 (inl ((so_far.near k).1 (m, below, there, low, high, inside)))
          | inr after ↦ (shown k).1 (inr (omega (arith, less, after, low, start), omega (arith, less, after, high, inside, end)))
        ],
      );
      order = order;
      starts = λ k d less. omega (arith, before.starts k d less, start);
      ends = λ k d less. omega (arith, before.ends k d less, end);
      inside = λ k d less. omega (arith, before.ends k d less, end);
    }

  -- all changes
  pub all_so_far : (hunks : List Hunk) → AreSoFar (length changes) hunks → AreHunksOf changes hunks
  all_so_far hunks so_far = record {
    shown = λ k inside. (
      λ shown. let (m, less, changed, low, high, rest) = (so_far.near k).0 shown in (m, changed, low, high),
      λ (m, changed, low, high). (so_far.near k).1 (m, changed.0, changed, low, high, inside),
    );
    apart = so_far.order.apart;
    some = so_far.order.some;
    inside = so_far.inside;
  }

-- one more is counted at the next element, if it passes
counted_next : (test : Change → Bool) (changes : List Change) (n : ℕ) (change : Change) → slice_get changes n ≡ Some change
    → count_by test (take (n + 1) changes) ≡ count_by test (take n changes) + cond (test change) 1 0
counted_next test changes n change is = by_answer (test change) refl
  where
    inside : n < length changes
    inside = slice_get_within changes n change is

    there : get_or changes n change ≡ change
    there = get_or_from_slice_get changes n change change is

    by_answer : (b : Bool) → test change ≡ b → count_by test (take (n + 1) changes) ≡ count_by test (take n changes) + cond b 1 0
    by_answer true yes' = count_by_more_yes test changes n change inside (ap test there ∙ yes')
    by_answer false no' = count_by_more_no test changes n change inside (ap test there ∙ no')
        ∙ sym (add-zero (count_by test (take n changes)))

-- the numbers after one more of the changes
pub passes_next : (changes : List Change) (passed new : Passed) (change : Change) → length changes < 2 ^ 64 → Passes changes passed
    → slice_get changes passed.changes ≡ Some change → new.changes ≡ min (passed.changes + 1) (2 ^ 64 - 1)
    → new.old_lines ≡ min (passed.old_lines + cond (is_old change) 1 0) (2 ^ 64 - 1)
    → new.new_lines ≡ min (passed.new_lines + cond (is_new change) 1 0) (2 ^ 64 - 1)
    → Passes changes new × (new.changes ≡ passed.changes + 1)
passes_next changes passed new change small passes is one old fresh =
    let n = passed.changes in
    let inside = slice_get_within changes n change is in
    let next : new.changes ≡ n + 1 = omega (arith, one, inside, small) in
    let old_next = counted_next is_old changes n change is in
    let new_next = counted_next is_new changes n change is in
    let old_most = count_by-le-length is_old (take (n + 1) changes) in
    let new_most = count_by-le-length is_new (take (n + 1) changes) in
    let most = length-take-le (n + 1) changes (omega (arith, inside)) in (
      record {
        within = omega (arith, next, inside);
        old = rw next (omega (arith, old, passes.old, old_next, old_most, most, inside, small));
        new = rw next (omega (arith, fresh, passes.new, new_next, new_most, most, inside, small));
      },
      next,
    )
