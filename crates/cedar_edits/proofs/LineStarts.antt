-- Lines and units of a text.
use Rattle.std.proofs.Common.{◌≡◌, refl, ℕ, zero, suc, ◌+◌, ◌-◌, ◌<◌, ◌≤◌, ◌==◌, ◌||◌, true, false, cond, List, length, get_or, take, drop, sum_by, ap, subst, sym, ◌∙◌, inl, inr, arith, add-one}
use Rattle.std.specs.Prelude.{slice_range}
use Rattle.std.proofs.lemmas.Bool.{cases_lt}
use Rattle.std.proofs.lemmas.Bool.{false_from_ne_true}
use Rattle.std.proofs.lemmas.List.{get_or-drop, get_or-take, length-take-le}
use Rattle.std.proofs.lemmas.List.Sums.{sum_by_more}
use Rattle.std.proofs.Math.ListN.{length-drop}
use Rattle.memchr.specs.Find.{Nowhere, Passes, is_byte2}
use Rattle.cedar_edits.specs.declared.positions.Encoding.{Encoding}
use Rattle.cedar_edits.specs.Positions.{BeginsLine, ends_line, lines_before, unit_count, units}

-- one more byte ends one more line, or none
pub lines_before-end : (text : List ℕ) (n : ℕ) → ends_line text n ≡ true
    → lines_before text (n + 1) ≡ lines_before text n + 1
lines_before-end text n h = rw (add-one, h) (omega arith)

pub lines_before-same : (text : List ℕ) (n : ℕ) → ends_line text n ≡ false
    → lines_before text (n + 1) ≡ lines_before text n
lines_before-same text n h = rw (add-one, h) (omega arith)

-- more bytes end no fewer lines
pub lines_before-le : (text : List ℕ) (k n : ℕ) → k ≤ n → lines_before text k ≤ lines_before text n
lines_before-le text k zero h = let e : k ≡ 0 = omega arith in rw e (omega arith)
lines_before-le text k (suc n) h = elim (cases_lt n k) [
  | inl above ↦ let e : k ≡ suc n = omega arith in rw e (omega arith)
  | inr within ↦ omega (arith, lines_before-le text k n within)
]

-- after a byte that ends a line, the next one begins
pub BeginsLine-next : (text : List ℕ) (line i : ℕ) → i < length text → lines_before text i ≡ line
    → ends_line text i ≡ true → BeginsLine text (line + 1) (i + 1)
BeginsLine-next text line i within lines ends = record {
  within = omega arith;
  lines = lines_before-end text i ends ∙ ap (λ n. n + 1) lines;
  first = λ k below. omega (arith, lines_before-le text k i (omega arith));
}

-- a line begins at one place
pub BeginsLine-unique : (text : List ℕ) (line s t : ℕ) → BeginsLine text line s
    → BeginsLine text line t → s ≡ t
BeginsLine-unique text line s t p q = elim (cases_lt s t) [
  | inl below ↦ absurd (omega (arith, q.first s below, p.lines))
  | inr above ↦ elim (cases_lt t s) [
    | inl below ↦ absurd (omega (arith, p.first t below, q.lines))
    | inr same ↦ omega arith
  ]
]

-- the units through one more byte
pub units-next : (e : Encoding) (text : List ℕ) (s i : ℕ) → s ≤ i → i < length text → units e
    (slice_range text s (i + 1)) ≡ units e (slice_range text s i) + unit_count e (get_or text i 0)
units-next e text s i from within =
    let more : (i + 1) - s ≡ (i - s) + 1 = omega arith in
    let place : s + (i - s) ≡ i = omega arith in
    ap (λ n. sum_by (unit_count e) (take n (drop s text))) more
    ∙ (sum_by_more (unit_count e) (drop s text) (i - s) 0 (simp length-drop (omega arith))
    ∙ ap (λ b. units e (slice_range text s i) + unit_count e b) (get_or-drop s text (i - s) 0
    ∙ ap (λ n. get_or text n 0) place))

-- more bytes have no fewer units
pub units-le : (e : Encoding) (text : List ℕ) (s i j : ℕ) → s ≤ i → i ≤ j → j ≤ length text
    → units e (slice_range text s i) ≤ units e (slice_range text s j)
units-le e text s i zero from upto within = let same : i ≡ 0 = omega arith in rw same (omega arith)
units-le e text s i (suc j) from upto within = elim (cases_lt j i) [
  | inl above ↦ let same : i ≡ suc j = omega arith in rw same (omega arith)
  | inr below ↦ omega (
    arith,
    units-le e text s i j from below (omega arith),
    subst (λ n. units e (slice_range text s n)
        ≡ units e (slice_range text s j) + unit_count e (get_or text j 0)) (add-one j)
        (units-next e text s j (omega arith) (omega arith)),
  )
]

-- only an ASCII character ends a line
pub ends_line-ascii : (text : List ℕ) (i : ℕ) → ends_line text i ≡ true → get_or text i 0 < 128
ends_line-ascii text i ends = grind arith

-- each line that ends takes a byte or more
pub lines_before-within : (text : List ℕ) (n : ℕ) → lines_before text n ≤ n
lines_before-within text zero = omega arith
lines_before-within text (suc n) = elim (ends_line text n) as
    (λ b. (cond b 1 0) + lines_before text n ≤ suc n) [
      | true ↦ omega (arith, lines_before-within text n)
      | false ↦ omega (arith, lines_before-within text n)
    ]

-- where none of these bytes ends a line, no more lines end
pub lines_before-skip : (text : List ℕ) (from : ℕ) (n : ℕ)
    → ((k : ℕ) → k < n → ends_line text (from + k) ≡ false)
    → lines_before text (from + n) ≡ lines_before text from
lines_before-skip text from zero h = ap (lines_before text) (omega arith)
lines_before-skip text from (suc n) h =
    let next : from + suc n ≡ (from + n) + 1 = omega arith in
    ap (lines_before text) next ∙ lines_before-same text (from + n) (h n (omega arith))
    ∙ lines_before-skip text from n (λ k l. h k (omega arith))

-- the first line begins at the start
pub line_zero : (text : List ℕ) → BeginsLine text 0 0
line_zero text = record { within = omega arith; lines = refl; first = λ k below. absurd (omega (arith, below)) }

-- only a line feed or a carriage return ends a line
end_byte : (text : List ℕ) (i : ℕ) → ends_line text i ≡ true
    → (get_or text i 0 == 10 || get_or text i 0 == 13) ≡ true
end_byte text i ends = grind arith

-- bytes that are neither end no lines
pub lines_before-others : (text : List ℕ) (from to n : ℕ) → from ≤ to → n ≤ to - from
    → Nowhere (Passes (is_byte2 10 13) (take (to - from) (drop from text))) 0 n
    → lines_before text (from + n) ≡ lines_before text from
lines_before-others text from to n o l none = lines_before-skip text from n (λ k b.
    false_from_ne_true (ends_line text (from + k)) (λ e. none k (omega arith) b
    (subst (λ x. (x == 10 || x == 13) ≡ true) (sym (same k b)) (end_byte text (from + k) e))))
  where
    same : (k : ℕ) → k < n → get_or (take (to - from) (drop from text)) k 0 ≡ get_or text (from + k) 0
    same k b = get_or-take (to - from) (drop from text) k 0 (omega (arith, b, l)) ∙ get_or-drop from text k 0

-- the bytes of a range
pub length-slice : (text : List ℕ) (from to : ℕ) → from ≤ to → to ≤ length text
    → length (take (to - from) (drop from text)) ≡ to - from
length-slice text from to o i =
    length-take-le (to - from) (drop from text) (omega (arith, o, i, length-drop from text))
