-- Texts in a row, each after what separates it from the one before.
use Rattle.std.specs.Prelude.{◌≡◌, ◌≢◌, ◌<◌, ◌≤◌, ◌+◌, ◌-◌, ℕ, suc, true, false, List, [], ◌∷◌, ◌++◌, length, map, take, codes}
use Rattle.std.proofs.Common.{get_or, refl, sym, ap, ◌∙◌, arith, length-take, append-nil, append_assoc}
use Rattle.std.proofs.lemmas.List.{take_more, take_all, map-append, length-map, length_push}
use Rattle.std.proofs.lemmas.Bool.Decides.{nat_tests}
use Rattle.cedar_faults.specs.declared.kinds.Name.{Name}
use Rattle.cedar_faults.specs.Messages.{called, listed, the_end, alternatives}
use Rattle.cedar_faults.specs.declared.expectation.Expected.{Expected}
use Rattle.cedar_faults.specs.Inside.Separators.{separator}

-- the texts from this index on, each after its separator
abbrev pub spread : ℕ → ℕ → List (List ℕ) → List ℕ
spread last k [] = []
spread last k (t ∷ ts) = separator k last ++ (t ++ spread last (suc k) ts)

spread-append : (last k n : ℕ) (xs ys : List (List ℕ)) → n ≡ k + length xs
    → spread last k (xs ++ ys) ≡ spread last k xs ++ spread last n ys
spread-append last k n [] ys e = ap (λ m. spread last m ys) (omega (arith, e))
spread-append last k n (x ∷ xs) ys e = ap (λ z. separator k last ++ (x ++ z))
    (spread-append last (suc k) n xs ys (omega (arith, e))) ∙ simp append_assoc

-- one more text
pub spread_push : (last : ℕ) (xs : List (List ℕ)) (k : ℕ) (x : List ℕ) → k ≡ length xs
    → spread last 0 xs ++ (separator k last ++ x) ≡ spread last 0 (xs ++ x ∷ [])
spread_push last xs k x e = ap (λ z. spread last 0 xs ++ (separator k last ++ z)) (sym (append-nil x))
    ∙ sym (spread-append last 0 k xs (x ∷ []) (omega (arith, e)))

middle_separator : (k last : ℕ) → suc k ≢ last → separator (suc k) last ≡ codes ", "
middle_separator k last h = grind (arith, nat_tests)

last_separator : (k last : ℕ) → suc k ≡ last → separator (suc k) last ≡ codes " or "
last_separator k last h = grind (arith, nat_tests)

from_listed : (last k : ℕ) (t : List ℕ) (ts : List (List ℕ)) → k + length ts ≡ last
    → t ++ spread last (suc k) ts ≡ listed (t ∷ ts)
from_listed last k t [] e = append-nil t
from_listed last k t (b ∷ []) e =
    rw (last_separator k last (omega (arith, e)), append-nil b) (sym (append_assoc t (codes " or ") b))
from_listed last k t (b ∷ c ∷ more) e =
    rw (middle_separator k last (λ h. omega (arith, e, h)))
    (ap (λ z. t ++ (codes ", " ++ z)) (from_listed last (suc k) b (c ∷ more) (omega (arith, e)))
    ∙ sym (append_assoc t (codes ", ") (listed (b ∷ c ∷ more))))

pub spread_listed : (last : ℕ) (ts : List (List ℕ)) → last ≡ length ts - 1
    → spread last 0 ts ≡ listed ts
spread_listed last [] e = refl
spread_listed last (t ∷ ts) e = from_listed last 0 t ts (omega (arith, e))

-- one more name
pub names_step : (last : ℕ) (all : List Name) (i : ℕ) (d : Name) → i < length all
    → spread last 0 (map called (take i all)) ++ (separator i last ++ called (get_or all i d))
    ≡ spread last 0 (map called (take (i + 1) all))
names_step last all i d l =
    let n : i ≡ length (map called (take i all)) =
    rw (length-map, length-take) (omega (arith, l)) in
    spread_push last (map called (take i all)) i (called (get_or all i d)) n
    ∙ ap (spread last 0) (sym (map-append called (take i all) (get_or all i d ∷ []))
    ∙ ap (map called) (sym (take_more all i d l)))

-- the names are all that could come
pub names_listed : (last : ℕ) (e : Expected) (i : ℕ) → e.end ≡ false
    → last ≡ length e.names.items - 1 → length e.names.items ≤ i
    → spread last 0 (map called (take i e.names.items)) ≡ listed (alternatives e)
names_listed last e i f l n =
    let names = e.names.items in
    rw (take_all i names n, f, append-nil (map called names))
    (spread_listed last (map called names) (rw length-map l))

-- the end can come too
pub end_listed : (last : ℕ) (e : Expected) (i : ℕ) → e.end ≡ true → last ≡ length e.names.items
    → length e.names.items ≤ i
    → spread last 0 (map called (take i e.names.items)) ++ (separator last last ++ the_end)
    ≡ listed (alternatives e)
end_listed last e i f l n =
    let names = e.names.items in
    let all = map called names in
    let k : last ≡ length all = rw length-map l in
    rw (take_all i names n, f) (spread_push last all last the_end k
    ∙ spread_listed last (all ++ the_end ∷ []) (omega (arith, k, length_push all the_end)))
