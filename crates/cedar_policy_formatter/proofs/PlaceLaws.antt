-- Where a text is cut, and what its last line is.
use Rattle.std.proofs.Common.{◌≡◌, ◌≢◌, ℕ, zero, suc, ◌<◌, ◌≤◌, ◌-◌, true, false, not, cond, List, length, take, drop, get_or, refl, sym, inl, inr, ◌∙◌, ap, subst, arith}
use Rattle.std.proofs.lemmas.Bool.{cases_lt, lt-ltb, le-ltb, le-leb, lt-leb, eq-eqb, ne_eqb}
use Rattle.std.proofs.lemmas.List.{take_all, get_or_past}
use Rattle.std.proofs.lemmas.List.Sums.{suffix_len_is}
use Rattle.std.proofs.lemmas.Str.{IsCharBoundary-end}
use Rattle.std.specs.List.{after_last, suffix_len}
use Rattle.std.specs.Str.{IsCharBoundary}
use Rattle.std.specs.Fmt.{is_char_start}
use Rattle.std.specs.Fmt.Cut.{floor_char_boundary}
use Rattle.cedar_policy_formatter.specs.Places.{is_line_feed}
use Rattle.cedar_tokens.specs.Bytes.{line_feed}

-- what the method `floor_char_boundary` ensures of its result `kept`
pub record IsLastBoundary (bs : List ℕ) (i kept : ℕ) : Type 0 where
  pub bound : kept ≤ i
  pub boundary : IsCharBoundary bs kept
  pub nearest : (j : ℕ) → kept < j → j ≤ i → ¬ (IsCharBoundary bs j)

-- `IsCharBoundary`'s fact on a byte decides `is_char_start`
starts : (b : ℕ) → (128 ≤ b → 192 ≤ b) → is_char_start b ≡ true
starts b h = elim (cases_lt b 128) [
  | inl low ↦ rw (lt-ltb b 128 low) refl
  | inr high ↦ rw (le-ltb b 128 high, le-leb 192 b (h high)) refl
]

continues : (b : ℕ) → ¬ (128 ≤ b → 192 ≤ b) → is_char_start b ≡ false
continues b h = elim (cases_lt b 128) [
  | inl low ↦ absurd (h (λ high. omega arith))
  | inr high ↦ elim (cases_lt b 192) [
    | inl mid ↦ rw (le-ltb b 128 high, lt-leb 192 b mid) refl
    | inr top ↦ absurd (h (λ _. top))
  ]
]

-- inside the text, that determines the place
floor-within : (bs : List ℕ) (i kept : ℕ) → i < length bs → IsLastBoundary bs i kept
    → floor_char_boundary bs i ≡ kept
unfolding floor_char_boundary
floor-within bs zero kept within last = omega arith
floor-within bs (suc i) kept within last = elim (cases_lt kept (suc i)) [
  | inl below ↦
      ap (λ t. cond t (suc i) (floor_char_boundary bs i))
      (continues _ (λ h. last.nearest (suc i) below (omega arith) (omega arith, λ _. h)))
      ∙ floor-within bs i kept (omega arith) (record {
        bound = omega arith;
        boundary = last.boundary;
        nearest = λ j p q. last.nearest j p (omega arith);
      })
  | inr above ↦
      let same : kept ≡ suc i = omega arith in
      ap (λ t. cond t (suc i) (floor_char_boundary bs i))
      (starts _ ((subst (IsCharBoundary bs) same last.boundary).1 within)) ∙ sym same
]

-- past the end there is nothing to move back over
floor-past : (bs : List ℕ) (i : ℕ) → length bs ≤ i → floor_char_boundary bs i ≡ i
unfolding floor_char_boundary
floor-past bs zero past = refl
floor-past bs (suc i) past = rw (get_or_past bs (suc i) 0 past) refl

-- so it determines the text before that place, for any byte
pub take-floor : (bs : List ℕ) (i kept : ℕ) → IsLastBoundary bs i kept
    → take (floor_char_boundary bs i) bs ≡ take kept bs
take-floor bs i kept last = elim (cases_lt i (length bs)) [
  | inl within ↦ ap (λ n. take n bs) (floor-within bs i kept within last)
  | inr past ↦ elim (cases_lt kept (length bs)) [
    | inl short ↦ absurd (last.nearest (length bs) short past (IsCharBoundary-end bs))
    | inr all ↦ rw (floor-past bs i past) (take_all i bs past ∙ sym (take_all kept bs all))
  ]
]

-- what follows the last line feed, given the place after it
pub drop-last_feed : (bs : List ℕ) (n : ℕ) → n ≤ length bs
    → ((k : ℕ) → n ≤ k → k < length bs → get_or bs k 0 ≢ line_feed)
    → (0 < n → get_or bs (n - 1) 0 ≡ line_feed)
    → drop n bs ≡ after_last is_line_feed bs
drop-last_feed bs n within none_after feed =
    let left : suffix_len (λ b. not (is_line_feed b)) bs ≡ length bs - n
    = suffix_len_is (λ b. not (is_line_feed b)) bs n 0 within
    (λ k from to. ap not (ne_eqb (get_or bs k 0) line_feed (none_after k from to)))
    (λ some. ap not (eq-eqb (get_or bs (n - 1) 0) line_feed (feed some))) in
    let same : n ≡ length bs - suffix_len (λ b. not (is_line_feed b)) bs = omega arith in
    ap (λ m. drop m bs) same
