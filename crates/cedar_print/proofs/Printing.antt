-- The marks of a document print its layout.
use Rattle.std.proofs.Common.{◌≡◌, ℕ, ℤ, pos, negsuc, None, ◌+◌, ◌<◌, ◌≤◌, ◌^◌, Bool, true, false, ◌||◌, List, [], ◌∷◌, ◌++◌, arith, refl, sym, ap, subst, ◌∙◌, append-nil}
use Rattle.std.specs.List.{concat, flat_map}
use Rattle.std.specs.Str.{trim}
use Rattle.cedar_layout.specs.Layout.{Doc, atoms, columns, Piece, flat_space, flat_nothing, broken, indented, column_after, IsTheLayoutAt}
use Rattle.cedar_layout.specs.Layout as layout
use Rattle.cedar_layout.specs.Inside.Computed.{tail_then, fits, laid}
use Rattle.cedar_layout.proofs.Laid.{around, laid-dot}
use Rattle.cedar_layout.proofs.Rule.{laid_is_the_layout}
use Rattle.cedar_print.specs.declared.place.Frame.{Frame}
use Rattle.cedar_print.specs.WrittenMarks.{Mark, end_nest, end_group, end_nothing, AreMarks}
use Rattle.cedar_print.specs.Clean.{units_of, without_blank_lines, IsUntrimmedLayoutAt, IsTheCleanLayoutAt}
use Rattle.cedar_print.specs.Inside.Measured.{facts, first_or}
use Rattle.cedar_print.specs.Inside.Printed.{State, after_begin, printed, at_first}
use Rattle.cedar_print.proofs.Beginnings.{BeginWith, nothing_first, in_turn, text_first, line_first, line_or_nil_first, hard_first, nest_first, group_first, no_group_first, begin_with_all}
use Rattle.cedar_print.specs.Inside.Written.{units_at}
use Rattle.cedar_print.proofs.Units.{concat_units}
use Rattle.cedar_print.proofs.Clean.{laid_untrimmed, laid_is_clean}
use Rattle.cedar_print.proofs.Facts.{HasTail, columns_first, ends_first, tail_first, group_fits}

-- the state of printing before marks
abbrev state : List Mark → Bool → ℕ → List Frame → ℕ → State
state ms f i outer start = record {
  here = record { flat = f; indent = i };
  outer = outer;
  breaks = (facts ms).breaks;
  begins = (facts ms).begins;
  start = start;
}

-- what marks print in a frame, where the start is the column before them plus their columns
abbrev from : ℕ → List Mark → Bool → ℕ → List Frame → ℕ → List Piece
from w ms f i outer start = printed w ms (state ms f i outer start)

-- what marks print in a frame at a column
abbrev at_column : ℕ → List Mark → Bool → ℕ → List Frame → ℕ → List Piece
at_column w ms f i outer col = from w ms f i outer (col + (facts ms).columns)

-- the columns of marks fit in a `u128`, with a `usize` to spare
abbrev InRange : List Mark → Type 0
InRange ms = (facts ms).columns + 2 ^ 64 ≤ 2 ^ 128

indented_in_range : (i : ℕ) (n : ℤ) → i < 2 ^ 64 → indented i n < 2 ^ 64
indented_in_range i (pos n) h = omega arith
indented_in_range i (negsuc n) h = omega arith

rest_in_range : (ms : List Mark) (d : Doc) (rest : List Mark) → BeginWith ms d rest → InRange ms
    → InRange rest
rest_in_range ms d rest x h = let k = columns_first ms d rest x in omega (arith, h, k)

-- pieces, and then what the last marks print
abbrev then_rest : ℕ → List Piece → List Mark → Bool → ℕ → List Frame → ℕ → List Piece
then_rest w ps rest f i outer col = ps ++ at_column w rest f i outer (column_after col ps)

one_more : (w : ℕ) (p : Piece) (rest : List Mark) (f : Bool) (i : ℕ) (outer : List Frame) (a b : ℕ)
    → a ≡ b → p ∷ from w rest f i outer a ≡ p ∷ from w rest f i outer b
one_more w p rest f i outer a b e = ap (λ n. p ∷ from w rest f i outer n) e

one_content : (w : ℕ) (ps : List Piece) (rest : List Mark) (f : Bool) (i : ℕ) (outer : List Frame)
    (col : ℕ) → then_rest w ps rest f i outer col ≡ then_rest w (ps ++ []) rest f i outer col
one_content w ps rest f i outer col =
    ap (λ qs. then_rest w qs rest f i outer col) (sym (append-nil ps))

laid_first : (w : ℕ) (ms : List Mark) (d : Doc) (rest : List Mark) → BeginWith ms d rest
    → (f : Bool) (i : ℕ) (outer : List Frame) (col t : ℕ) → w < 2 ^ 64 → i < 2 ^ 64 → InRange ms
    → HasTail rest t
    → at_column w ms f i outer col ≡ then_rest w (laid w d f i col t) rest f i outer col
laid_first w _ _ _ (nothing_first rest) f i outer col t l b k h = refl
laid_first w _ _ _ (in_turn ms ns rest d e x y) f i outer col t l b k h =
    let T = tail_then (atoms e) t in
    let ps = laid w d f i col T in
    let rs = laid w e f i (column_after col ps) t in
    let first = laid_first w ms d ns x f i outer col T l b k (tail_first ns e rest y t h) in
    let next = laid_first w ns e rest y f i outer (column_after col ps) t l b
    (rest_in_range ms d ns x k) h in
    first ∙ around ps rs _ col (at_column w rest f i outer) next
    ∙ ap (λ qs. then_rest w qs rest f i outer col) (sym (laid-dot w d e f i col t))
laid_first w _ _ _ (text_first s rest) f i outer col t l b k h =
    one_more w (layout.written s) rest f i outer _ _ (omega arith)
laid_first w _ _ _ (line_first rest) true i outer col t l b k h =
    one_more w flat_space rest true i outer _ _ (omega arith)
laid_first w _ _ _ (line_first rest) false i outer col t l b k h =
    one_more w (broken i) rest false i outer _ _ (omega (arith, k))
laid_first w _ _ _ (line_or_nil_first rest) true i outer col t l b k h =
    one_more w flat_nothing rest true i outer _ _ (omega arith)
laid_first w _ _ _ (line_or_nil_first rest) false i outer col t l b k h =
    one_more w (broken i) rest false i outer _ _ (omega (arith, k))
laid_first w _ _ _ (hard_first rest) f i outer col t l b k h =
    one_more w (broken i) rest f i outer _ _ (omega (arith, k))
laid_first w _ _ _ (nest_first n ms d rest x) f i outer col t l b k h =
    laid_first w ms d (end_nest ∷ rest) x f (indented i n) (record { flat = f; indent = i } ∷ outer)
    col t l (indented_in_range i n b) k h
    ∙ one_content w (laid w d f (indented i n) col t) rest f i outer col
laid_first w _ _ _ (group_first ms d rest x) f i outer col t l b k h =
    let start = col + (facts ms).columns in
    let inner : List Frame = record { flat = f; indent = i } ∷ outer in
    let g = f || fits w (atoms d) col t in
    ap (λ es. printed w ms (after_begin w (first_or None es) (state ms f i outer start)))
    (ends_first ms d (end_group ∷ rest) x)
    ∙ ap (λ v. from w ms (f || v) i inner start) (group_fits w ms d rest x col t l h)
    ∙ laid_first w ms d (end_group ∷ rest) x g i inner col t l b k h
    ∙ one_content w (laid w d g i col t) rest f i outer col
laid_first w _ _ _ (no_group_first ms d rest x) f i outer col t l b k h =
    ap (λ es. printed w ms (after_begin w (first_or None es)
    (state ms f i outer (col + (facts ms).columns)))) (ends_first ms d (end_nothing ∷ rest) x)
    ∙ laid_first w ms d (end_nothing ∷ rest) x f i outer col t l b k h

zero_plus : (n : ℕ) → n ≡ 0 + n
zero_plus n = omega arith

printed_is_laid : (w : ℕ) (ms : List Mark) (d : Doc) → AreMarks ms d → w < 2 ^ 64 → InRange ms
    → printed w ms (at_first (facts ms)) ≡ laid w d false 0 0 0
printed_is_laid w ms d x l k =
    ap (λ n. from w ms false 0 [] n) (zero_plus (facts ms).columns)
    ∙ laid_first w ms d [] (begin_with_all ms d x) false 0 [] 0 0 l (omega arith) k refl
    ∙ append-nil (laid w d false 0 0 0)

-- the marks of a document print its layout at a width
pub prints_the_layout : (w : ℕ) (ms : List Mark) (d : Doc) → AreMarks ms d → w < 2 ^ 64
    → (facts ms).columns + 2 ^ 64 ≤ 2 ^ 128
    → IsTheLayoutAt w d (concat (units_at w ms))
prints_the_layout w ms d x l k = subst (IsTheLayoutAt w d)
    (sym (ap (λ ps. concat (flat_map units_of ps)) (printed_is_laid w ms d x l k)
    ∙ concat_units (laid w d false 0 0 0))) (laid_is_the_layout w d)

-- and so it does without blank lines
pub prints_the_clean_layout : (w : ℕ) (ms : List Mark) (d : Doc) → AreMarks ms d → w < 2 ^ 64
    → (facts ms).columns + 2 ^ 64 ≤ 2 ^ 128
    → IsTheCleanLayoutAt w d (trim (without_blank_lines false (units_at w ms)))
prints_the_clean_layout w ms d x l k = subst
    (λ ps. IsTheCleanLayoutAt w d (trim (without_blank_lines false (flat_map units_of ps))))
    (sym (printed_is_laid w ms d x l k)) (laid_is_clean w d)

pub prints_the_untrimmed_layout : (w : ℕ) (ms : List Mark) (d : Doc) → AreMarks ms d → w < 2 ^ 64
    → (facts ms).columns + 2 ^ 64 ≤ 2 ^ 128
    → IsUntrimmedLayoutAt w d (without_blank_lines false (units_at w ms))
prints_the_untrimmed_layout w ms d x l k = subst
    (λ ps. IsUntrimmedLayoutAt w d (without_blank_lines false (flat_map units_of ps)))
    (sym (printed_is_laid w ms d x l k)) (laid_untrimmed w d)
