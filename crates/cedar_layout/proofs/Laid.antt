-- Laws of the computed layout: of documents one after the other, and of capped numbers.
use Rattle.std.proofs.Common.{◌≡◌, ℕ, ◌+◌, ◌^◌, ◌<◌, Bool, true, false, not, ◌||◌, ◌&&◌, nat_le, List, [], ◌∷◌, ◌++◌, refl, sym, ap, ◌∙◌, arith, append_assoc}
use Rattle.std.proofs.lemmas.Bool.Decides.{nat_tests}
use Rattle.cedar_layout.specs.Layout.{Doc, nil, text_then, line_then, line_or_nil_then, hard_then, nest_then, group_then, ◌·◌, Atom, word, space_or_break, nothing_or_break, must_break, atoms, columns, flat_columns, has_hard, Piece, written, flat_space, flat_nothing, broken, indented, column_after}
use Rattle.cedar_layout.specs.Inside.Computed.{tail_then, fits, laid, capped}
use Rattle.cedar_layout.proofs.Values.{atoms-dot}

pub tail_then-append : (xs ys : List Atom) (t : ℕ)
    → tail_then (xs ++ ys) t ≡ tail_then xs (tail_then ys t)
tail_then-append [] ys t = refl
tail_then-append (word s ∷ xs) ys t = ap (λ n. columns s + n) (tail_then-append xs ys t)
tail_then-append (space_or_break ∷ xs) ys t = refl
tail_then-append (nothing_or_break ∷ xs) ys t = refl
tail_then-append (must_break ∷ xs) ys t = refl

pub tail_then-dot : (a b : Doc) (t : ℕ)
    → tail_then (atoms (a · b)) t ≡ tail_then (atoms a) (tail_then (atoms b) t)
tail_then-dot a b t =
    ap (λ xs. tail_then xs t) (atoms-dot a b) ∙ tail_then-append (atoms a) (atoms b) t

pub column_after-append : (n : ℕ) (ps qs : List Piece)
    → column_after n (ps ++ qs) ≡ column_after (column_after n ps) qs
column_after-append n [] qs = refl
column_after-append n (written s ∷ ps) qs = column_after-append (n + columns s) ps qs
column_after-append n (flat_space ∷ ps) qs = column_after-append (n + 1) ps qs
column_after-append n (flat_nothing ∷ ps) qs = column_after-append n ps qs
column_after-append n (broken i ∷ ps) qs = column_after-append i ps qs

capped-plus : (a n m : ℕ) → capped n ≡ capped m → capped (a + n) ≡ capped (a + m)
capped-plus a n m e = omega arith

capped-add_both : (n m a : ℕ) → capped n ≡ capped m → capped (n + a) ≡ capped (m + a)
capped-add_both n m a e = omega arith

pub column_after-capped : (n m : ℕ) (ps : List Piece) → capped n ≡ capped m
    → capped (column_after n ps) ≡ capped (column_after m ps)
column_after-capped n m [] e = e
column_after-capped n m (written s ∷ ps) e =
    column_after-capped (n + columns s) (m + columns s) ps (capped-add_both n m (columns s) e)
column_after-capped n m (flat_space ∷ ps) e =
    column_after-capped (n + 1) (m + 1) ps (capped-add_both n m 1 e)
column_after-capped n m (flat_nothing ∷ ps) e = column_after-capped n m ps e
column_after-capped n m (broken i ∷ ps) e = refl

nat_le-capped : (w x n m t u : ℕ) → w < 2 ^ 64 → capped n ≡ capped m → capped t ≡ capped u
    → nat_le (n + x + t) w ≡ nat_le (m + x + u) w
nat_le-capped w x n m t u h e k = grind (arith, nat_tests)

both_capped : (ps qs : List Piece) (n m : ℕ) (g k : ℕ → List Piece) → capped n ≡ capped m → ps ≡ qs
    → ((x y : ℕ) → capped x ≡ capped y → g x ≡ k y)
    → ps ++ g (column_after n ps) ≡ qs ++ k (column_after m qs)
both_capped ps qs n m g k e same h =
    ap (λ x. ps ++ x) (h _ _ (column_after-capped n m ps e))
    ∙ ap (λ x. x ++ k (column_after m x)) same

-- a document before another one
abbrev pub AfterIt : ℕ → Doc → Doc → Bool → ℕ → ℕ → ℕ → Type 0
AfterIt w a b f i col t =
    laid w (a · b) f i col t ≡ laid w a f i col (tail_then (atoms b) t)
    ++ laid w b f i (column_after col (laid w a f i col (tail_then (atoms b) t))) t

pub around : (ps rs x : List Piece) (col : ℕ) (g : ℕ → List Piece)
    → x ≡ rs ++ g (column_after (column_after col ps) rs)
    → ps ++ x ≡ (ps ++ rs) ++ g (column_after col (ps ++ rs))
around ps rs x col g e =
    ap (λ y. ps ++ y) e
    ∙ sym (append_assoc ps rs (g (column_after (column_after col ps) rs)))
    ∙ ap (λ n. (ps ++ rs) ++ g n) (sym (column_after-append col ps rs))

pub laid-dot : (w : ℕ) (a b : Doc) (f : Bool) (i col t : ℕ) → AfterIt w a b f i col t
laid-dot w nil b f i col t = refl
laid-dot w (text_then s r) b f i col t =
    ap (λ ps. written s ∷ ps) (laid-dot w r b f i (col + columns s) t)
laid-dot w (line_then r) b true i col t =
    ap (λ ps. flat_space ∷ ps) (laid-dot w r b true i (col + 1) t)
laid-dot w (line_then r) b false i col t = ap (λ ps. broken i ∷ ps) (laid-dot w r b false i i t)
laid-dot w (line_or_nil_then r) b true i col t =
    ap (λ ps. flat_nothing ∷ ps) (laid-dot w r b true i col t)
laid-dot w (line_or_nil_then r) b false i col t =
    ap (λ ps. broken i ∷ ps) (laid-dot w r b false i i t)
laid-dot w (hard_then r) b f i col t = ap (λ ps. broken i ∷ ps) (laid-dot w r b f i i t)
laid-dot w (nest_then n d r) b f i col t =
    let T = tail_then (atoms b) t in
    let u = tail_then (atoms r) T in
    let ps = laid w d f (indented i n) col u in
    let rs = laid w r f i (column_after col ps) T in
    ap (λ v. laid w d f (indented i n) col v ++ laid w (r
    · b) f i (column_after col (laid w d f (indented i n) col v)) t) (tail_then-dot r b t)
    ∙ around ps rs _ col (λ m. laid w b f i m t) (laid-dot w r b f i (column_after col ps) t)
laid-dot w (group_then d r) b f i col t =
    let T = tail_then (atoms b) t in
    let u = tail_then (atoms r) T in
    let ps = laid w d (f || fits w (atoms d) col u) i col u in
    let rs = laid w r f i (column_after col ps) T in
    ap (λ v. laid w d (f || fits w (atoms d) col v) i col v ++ laid w (r · b) f i (column_after col
    (laid w d (f || fits w (atoms d) col v) i col v)) t) (tail_then-dot r b t)
    ∙ around ps rs _ col (λ m. laid w b f i m t) (laid-dot w r b f i (column_after col ps) t)

-- ---- capped numbers

pub tail_then-capped : (xs : List Atom) (t u : ℕ) → capped t ≡ capped u
    → capped (tail_then xs t) ≡ capped (tail_then xs u)
tail_then-capped [] t u e = e
tail_then-capped (word s ∷ xs) t u e = capped-plus (columns s) _ _ (tail_then-capped xs t u e)
tail_then-capped (space_or_break ∷ xs) t u e = refl
tail_then-capped (nothing_or_break ∷ xs) t u e = refl
tail_then-capped (must_break ∷ xs) t u e = refl

pub fits-capped : (w : ℕ) (xs : List Atom) (n m t u : ℕ) → w < 2 ^ 64 → capped n ≡ capped m
    → capped t ≡ capped u → fits w xs n t ≡ fits w xs m u
fits-capped w xs n m t u h e k =
    ap (λ b. not (has_hard xs) && b) (nat_le-capped w (flat_columns xs) n m t u h e k)

pub laid-capped : (w : ℕ) (d : Doc) (f : Bool) (i n m t u : ℕ) → w < 2 ^ 64 → capped n ≡ capped m
    → capped t ≡ capped u → laid w d f i n t ≡ laid w d f i m u
laid-capped w nil f i n m t u h e k = refl
laid-capped w (text_then s r) f i n m t u h e k = ap (λ ps. written s ∷ ps) (laid-capped w r f i
    (n + columns s) (m + columns s) t u h (capped-add_both n m (columns s) e) k)
laid-capped w (line_then r) true i n m t u h e k = ap (λ ps. flat_space ∷ ps)
    (laid-capped w r true i (n + 1) (m + 1) t u h (capped-add_both n m 1 e) k)
laid-capped w (line_then r) false i n m t u h e k =
    ap (λ ps. broken i ∷ ps) (laid-capped w r false i i i t u h refl k)
laid-capped w (line_or_nil_then r) true i n m t u h e k =
    ap (λ ps. flat_nothing ∷ ps) (laid-capped w r true i n m t u h e k)
laid-capped w (line_or_nil_then r) false i n m t u h e k =
    ap (λ ps. broken i ∷ ps) (laid-capped w r false i i i t u h refl k)
laid-capped w (hard_then r) f i n m t u h e k =
    ap (λ ps. broken i ∷ ps) (laid-capped w r f i i i t u h refl k)
laid-capped w (nest_then z d r) f i n m t u h e k =
    let ps = laid w d f (indented i z) n (tail_then (atoms r) t) in
    let same = laid-capped w d f (indented i z) n m (tail_then (atoms r) t)
    (tail_then (atoms r) u) h e (tail_then-capped (atoms r) t u k) in
    both_capped ps _ n m (λ x. laid w r f i x t) (λ x. laid w r f i x u) e same
    (λ x y l. laid-capped w r f i x y t u h l k)
laid-capped w (group_then d r) f i n m t u h e k =
    let T = tail_then (atoms r) t in
    let U = tail_then (atoms r) u in
    let K = tail_then-capped (atoms r) t u k in
    let b = f || fits w (atoms d) n T in
    let ps = laid w d b i n T in
    let same = laid-capped w d b i n m T U h e K
    ∙ ap (λ x. laid w d (f || x) i m U) (fits-capped w (atoms d) n m T U h e K) in
    both_capped ps _ n m (λ x. laid w r f i x t) (λ x. laid w r f i x u) e same
    (λ x y l. laid-capped w r f i x y t u h l k)
