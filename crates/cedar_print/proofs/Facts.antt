-- What is known about marks that begin with those of a document.
use Rattle.std.proofs.Common.{◌≡◌, ℕ, ◌+◌, ◌-◌, ◌<◌, ◌≤◌, ◌^◌, Bool, true, false, not, ◌&&◌, nat_le, List, [], ◌∷◌, ◌++◌, arith, refl, sym, ap, ◌∙◌, append-nil}
use Rattle.std.proofs.lemmas.Bool.Decides.{nat_tests}
use Rattle.std.proofs.lemmas.Bool.{false≢true}
use Rattle.cedar_layout.specs.Layout.{Doc, ◌·◌, Atom, word, space_or_break, nothing_or_break, must_break, atoms, columns, flat_columns, has_hard}
use Rattle.cedar_layout.specs.Inside.Computed.{tail_then, fits}
use Rattle.cedar_layout.proofs.Laid.{tail_then-dot}
use Rattle.cedar_layout.proofs.Values.{atoms-dot}
use Rattle.cedar_print.specs.WrittenMarks.{Mark, end_nest, end_group, end_nothing}
use Rattle.cedar_print.specs.Inside.Measured.{facts, others}
use Rattle.cedar_print.proofs.Beginnings.{BeginWith, nothing_first, in_turn, text_first, line_first, line_or_nil_first, hard_first, nest_first, group_first, no_group_first}

-- ---- columns

-- the columns of a content that is laid out flat, where a `Hard` takes more than any width
abbrev weight_of : Atom → ℕ
weight_of (word s) = columns s
weight_of space_or_break = 1
weight_of nothing_or_break = 0
weight_of must_break = 2 ^ 64

abbrev pub weight : List Atom → ℕ
weight [] = 0
weight (x ∷ xs) = weight_of x + weight xs

weight-append : (xs ys : List Atom) → weight (xs ++ ys) ≡ weight xs + weight ys
weight-append [] ys = omega arith
weight-append (x ∷ xs) ys = let h = weight-append xs ys in omega (arith, h)

weight-dot : (d e : Doc) → weight (atoms (d · e)) ≡ weight (atoms d) + weight (atoms e)
weight-dot d e = ap weight (atoms-dot d e) ∙ weight-append (atoms d) (atoms e)

light : (xs : List Atom) → has_hard xs ≡ false → weight xs ≡ flat_columns xs
light [] h = refl
light (word s ∷ xs) h = ap (λ n. columns s + n) (light xs h)
light (space_or_break ∷ xs) h = ap (λ n. 1 + n) (light xs h)
light (nothing_or_break ∷ xs) h = ap (λ n. 0 + n) (light xs h)
light (must_break ∷ xs) h = absurd (false≢true (sym h))

heavy : (xs : List Atom) → has_hard xs ≡ true → 2 ^ 64 ≤ weight xs
heavy [] h = absurd (false≢true h)
heavy (word s ∷ xs) h = let k = heavy xs h in omega (arith, k)
heavy (space_or_break ∷ xs) h = let k = heavy xs h in omega (arith, k)
heavy (nothing_or_break ∷ xs) h = let k = heavy xs h in omega (arith, k)
heavy (must_break ∷ xs) h = omega arith

fits_at : (b : Bool) (xs : List Atom) (w col t : ℕ) → w < 2 ^ 64 → has_hard xs ≡ b
    → nat_le (col + weight xs + t) w ≡ (not b && nat_le (col + flat_columns xs + t) w)
fits_at true xs w col t l h = let k = heavy xs h in grind (arith, nat_tests)
fits_at false xs w col t l h = ap (λ n. nat_le (col + n + t) w) (light xs h)

-- ---- marks that begin with those of a document

pub columns_first : (ms : List Mark) (d : Doc) (rest : List Mark) → BeginWith ms d rest
    → (facts ms).columns ≡ weight (atoms d) + (facts rest).columns
columns_first _ _ _ (nothing_first rest) = omega arith
columns_first _ _ _ (in_turn ms ns rest d e x y) =
    let h = columns_first ms d ns x in
    let k = columns_first ns e rest y in
    omega (arith, h, k, weight-dot d e)
columns_first _ _ _ (text_first s rest) = omega arith
columns_first _ _ _ (line_first rest) = omega arith
columns_first _ _ _ (line_or_nil_first rest) = omega arith
columns_first _ _ _ (hard_first rest) = omega arith
columns_first _ _ _ (nest_first n ms d rest x) =
    let h = columns_first ms d (end_nest ∷ rest) x in omega (arith, h, weight-append (atoms d) [])
columns_first _ _ _ (group_first ms d rest x) =
    let h = columns_first ms d (end_group ∷ rest) x in omega (arith, h, weight-append (atoms d) [])
columns_first _ _ _ (no_group_first ms d rest x) = columns_first ms d (end_nothing ∷ rest) x

pub ends_first : (ms : List Mark) (d : Doc) (rest : List Mark) → BeginWith ms d rest
    → (facts ms).ends ≡ (facts rest).ends
ends_first _ _ _ (nothing_first rest) = refl
ends_first _ _ _ (in_turn ms ns rest d e x y) = ends_first ms d ns x ∙ ends_first ns e rest y
ends_first _ _ _ (text_first s rest) = refl
ends_first _ _ _ (line_first rest) = refl
ends_first _ _ _ (line_or_nil_first rest) = refl
ends_first _ _ _ (hard_first rest) = refl
ends_first _ _ _ (nest_first n ms d rest x) =
    ap (λ es. others es) (ends_first ms d (end_nest ∷ rest) x)
ends_first _ _ _ (group_first ms d rest x) =
    ap (λ es. others es) (ends_first ms d (end_group ∷ rest) x)
ends_first _ _ _ (no_group_first ms d rest x) =
    ap (λ es. others es) (ends_first ms d (end_nothing ∷ rest) x)

-- the columns of the tail of marks
abbrev pub HasTail : List Mark → ℕ → Type 0
HasTail ms t = (facts ms).columns ≡ t + (facts ms).stop

tail_of_one : (ms : List Mark) (d : Doc) (t : ℕ) → HasTail ms (tail_then (atoms d) t)
    → HasTail ms (tail_then (atoms d ++ []) t)
tail_of_one ms d t h = h ∙ ap (λ xs. tail_then xs t + (facts ms).stop) (sym (append-nil (atoms d)))

pub tail_first : (ms : List Mark) (d : Doc) (rest : List Mark) → BeginWith ms d rest → (t : ℕ)
    → HasTail rest t → HasTail ms (tail_then (atoms d) t)
tail_first _ _ _ (nothing_first rest) t h = h
tail_first _ _ _ (in_turn ms ns rest d e x y) t h =
    tail_first ms d ns x (tail_then (atoms e) t) (tail_first ns e rest y t h)
    ∙ ap (λ u. u + (facts ms).stop) (sym (tail_then-dot d e t))
tail_first _ _ _ (text_first s rest) t h = omega (arith, h)
tail_first _ _ _ (line_first rest) t h = omega arith
tail_first _ _ _ (line_or_nil_first rest) t h = omega arith
tail_first _ _ _ (hard_first rest) t h = omega arith
tail_first _ _ _ (nest_first n ms d rest x) t h =
    tail_of_one ms d t (tail_first ms d (end_nest ∷ rest) x t h)
tail_first _ _ _ (group_first ms d rest x) t h =
    tail_of_one ms d t (tail_first ms d (end_group ∷ rest) x t h)
tail_first _ _ _ (no_group_first ms d rest x) t h = tail_first ms d (end_nothing ∷ rest) x t h

-- a group is flat where it fits
pub group_fits : (w : ℕ) (ms : List Mark) (d : Doc) (rest : List Mark)
    → BeginWith ms d (end_group ∷ rest) → (col t : ℕ) → w < 2 ^ 64 → HasTail rest t
    → nat_le (col + (facts ms).columns - (facts rest).stop) w ≡ fits w (atoms d) col t
group_fits w ms d rest x col t l h =
    let k = columns_first ms d (end_group ∷ rest) x in
    let e : col + (facts ms).columns - (facts rest).stop ≡ col + weight (atoms d) + t =
    omega (arith, h, k) in
    ap (λ n. nat_le n w) e ∙ fits_at (has_hard (atoms d)) (atoms d) w col t l refl
