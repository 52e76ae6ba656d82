-- There is exactly one layout at a width, and it is the computed one.
use Rattle.std.proofs.Common.{◌≡◌, ℕ, ◌+◌, ◌≤◌, Bool, true, false, not, ◌&&◌, ◌||◌, nat_le, IsTrue, IsFalse, ◌↔◌, ◌⊎◌, inl, inr, ⊎_elim, cond, List, [], ◌∷◌, ◌++◌, refl, sym, ap, subst, ◌∙◌}
use Rattle.std.specs.List.{AllByRecursion, flat_map}
use Rattle.std.proofs.lemmas.Bool.{false≢true, leb-true, le-leb}
use Rattle.cedar_layout.specs.Layout.{Doc, nil, text_then, line_then, line_or_nil_then, hard_then, nest_then, group_then, Atom, word, space_or_break, nothing_or_break, must_break, atoms, columns, flat_columns, has_hard, Choice, Piece, written, flat_space, flat_nothing, broken, print, indented, pieces, column_after, Place, group_places, tail, columns_of_all, Fits, FollowsRule, IsLayoutAt, IsTheLayoutAt}
use Rattle.cedar_layout.specs.Inside.Computed.{tail_then, fits, laid}
use Rattle.cedar_tokens.proofs.Lists.{All-append, All-parts}

-- ---- tails

pub columns_of_tail-append : (xs ys : List Atom)
    → columns_of_all (tail (xs ++ ys)) ≡ tail_then xs (columns_of_all (tail ys))
columns_of_tail-append [] ys = refl
columns_of_tail-append (word s ∷ xs) ys = ap (λ n. columns s + n) (columns_of_tail-append xs ys)
columns_of_tail-append (space_or_break ∷ xs) ys = refl
columns_of_tail-append (nothing_or_break ∷ xs) ys = refl
columns_of_tail-append (must_break ∷ xs) ys = refl

-- ---- places

-- ---- the rule, as a test

pub fits_test_at : (b : Bool) (n w : ℕ) → IsTrue (not b && nat_le n w) ↔ (IsFalse b × (n ≤ w))
fits_test_at true n w = (λ e. absurd (false≢true e), λ h. absurd (false≢true (sym h.0)))
fits_test_at false n w = (λ e. (refl, leb-true n w e), λ h. le-leb n w h.1)

fits_test : (w : ℕ) (p : Place)
    → IsTrue (fits w p.content p.column (columns_of_all (tail p.after))) ↔ Fits w p
fits_test w p = fits_test_at (has_hard p.content)
    (p.column + flat_columns p.content + columns_of_all (tail p.after)) w

same_flat : (f m t : Bool) (F : Type 0) → (IsTrue m ↔ (IsTrue f ⊎ F)) → (IsTrue t ↔ F)
    → (f || m) ≡ (f || t)
same_flat true m t F h k = refl
same_flat false true true F h k = refl
same_flat false false false F h k = refl
same_flat false true false F h k = absurd (⊎_elim false≢true (λ x. false≢true (k.1 x)) (h.0 refl))
same_flat false false true F h k = absurd (false≢true (h.1 (inr (k.0 refl))))

marked : (f t : Bool) (F : Type 0) → (IsTrue t ↔ F) → IsTrue (f || t) ↔ (IsTrue f ⊎ F)
marked true t F k = (λ e. inl e, λ _. refl)
marked false t F k = (λ e. inr (k.0 e), ⊎_elim (λ e. absurd (false≢true e)) k.1)

join_step : (ps qs ss : List Piece) (g : List Piece → List Piece) → ps ≡ qs → ss ≡ g ps
    → ps ++ ss ≡ qs ++ g qs
join_step ps qs ss g e h = cc

pub pieces_are_laid : (w : ℕ) (d : Doc) (c : Choice d) (f : Bool) (i col : ℕ) (after : List Atom)
    → AllByRecursion (FollowsRule w) (group_places d c f i col after)
    → pieces d c f i ≡ laid w d f i col (columns_of_all (tail after))
pieces_are_laid w nil c f i col after h = refl
pieces_are_laid w (text_then s r) c f i col after h =
    ap (λ ps. written s ∷ ps) (pieces_are_laid w r c f i (col + columns s) after h)
pieces_are_laid w (line_then r) c f i col after h = ap (λ ps. cond f (flat_space) (broken i) ∷ ps)
    (pieces_are_laid w r c f i (cond f (col + 1) i) after h)
pieces_are_laid w (line_or_nil_then r) c f i col after h = ap
    (λ ps. cond f (flat_nothing) (broken i) ∷ ps) (pieces_are_laid w r c f i (cond f col i) after h)
pieces_are_laid w (hard_then r) c f i col after h =
    ap (λ ps. broken i ∷ ps) (pieces_are_laid w r c f i i after h)
pieces_are_laid w (nest_then n d r) c f i col after h =
    let t = columns_of_all (tail after) in
    let P = FollowsRule w in
    let xs = group_places d c.0 f (indented i n) col (atoms r ++ after) in
    let ys = group_places r c.1 f i (column_after col (pieces d c.0 f (indented i n))) after in
    let hd =
    pieces_are_laid w d c.0 f (indented i n) col (atoms r ++ after) (All-parts P xs ys h).0 in
    let hr = pieces_are_laid w r c.1 f i (column_after col (pieces d c.0 f (indented i n))) after
    (All-parts P xs ys h).1 in
    join_step _ _ _ (λ ps. laid w r f i (column_after col ps) t)
    (subst (λ u. pieces d c.0 f (indented i n) ≡ laid w d f (indented i n) col u)
    (columns_of_tail-append (atoms r) after) hd) hr
pieces_are_laid w (group_then d r) c f i col after h =
    let t = columns_of_all (tail after) in
    let P = FollowsRule w in
    let b = f || c.0 in
    let xs = group_places d c.1 b i col (atoms r ++ after) in
    let ys = group_places r c.2 f i (column_after col (pieces d c.1 b i)) after in
    let p : Place = record {
      inside_flat = f;
      column = col;
      content = atoms d;
      after = atoms r ++ after;
      is_flat = c.0;
    } in
    let e = columns_of_tail-append (atoms r) after in
    let hd = pieces_are_laid w d c.1 b i col (atoms r ++ after) (All-parts P xs ys h.1).0 in
    let hr = pieces_are_laid w r c.2 f i (column_after col (pieces d c.1 b i)) after
    (All-parts P xs ys h.1).1 in
    let same = same_flat f c.0 (fits w (atoms d) col (columns_of_all (tail (atoms r ++ after))))
    (Fits w p) h.0 (fits_test w p) in
    let hd1 = subst
    (λ v. pieces d c.1 b i ≡ laid w d v i col (columns_of_all (tail (atoms r ++ after)))) same hd in
    join_step _ _ _ (λ ps. laid w r f i (column_after col ps) t)
    (subst (λ u. pieces d c.1 b i ≡ laid w d (f || fits w (atoms d) col u) i col u) e hd1) hr

pub rule_is_met : (w : ℕ) (d : Doc) (f : Bool) (i col : ℕ) (after : List Atom)
    → (c : Choice d) × AllByRecursion (FollowsRule w) (group_places d c f i col after)
rule_is_met w nil f i col after = (tt, tt)
rule_is_met w (text_then s r) f i col after = rule_is_met w r f i (col + columns s) after
rule_is_met w (line_then r) f i col after = rule_is_met w r f i (cond f (col + 1) i) after
rule_is_met w (line_or_nil_then r) f i col after = rule_is_met w r f i (cond f col i) after
rule_is_met w (hard_then r) f i col after = rule_is_met w r f i i after
rule_is_met w (nest_then n d r) f i col after =
    let C = rule_is_met w d f (indented i n) col (atoms r ++ after) in
    let E = rule_is_met w r f i (column_after col (pieces d C.0 f (indented i n))) after in (
      (C.0, E.0),
      All-append (FollowsRule w)
          (group_places d C.0 f (indented i n) col (atoms r ++ after)) _ C.1 E.1,
    )
rule_is_met w (group_then d r) f i col after =
    let m = f || fits w (atoms d) col (columns_of_all (tail (atoms r ++ after))) in
    let p : Place = record {
      inside_flat = f;
      column = col;
      content = atoms d;
      after = atoms r ++ after;
      is_flat = m;
    } in
    let C = rule_is_met w d (f || m) i col (atoms r ++ after) in
    let E = rule_is_met w r f i (column_after col (pieces d C.0 (f || m) i)) after in (
      (m, C.0, E.0),
      (
        marked f (fits w (atoms d) col (columns_of_all (tail (atoms r ++ after)))) (Fits w p)
            (fits_test w p),
        All-append (FollowsRule w) (group_places d C.0 (f || m) i col (atoms r ++ after)) _ C.1 E.1,
      ),
    )

-- the text of the layout, computed
pub laid_is_layout : (w : ℕ) (d : Doc) → IsLayoutAt w d (flat_map print (laid w d false 0 0 0))
laid_is_layout w d =
    let C = rule_is_met w d false 0 0 [] in
    (C.0, C.1, ap (flat_map print) (sym (pieces_are_laid w d C.0 false 0 0 [] C.1)))

pub layout_is_laid : (w : ℕ) (d : Doc) (t : List ℕ) → IsLayoutAt w d t
    → t ≡ flat_map print (laid w d false 0 0 0)
layout_is_laid w d t h = h.2 ∙ ap (flat_map print) (pieces_are_laid w d h.0 false 0 0 [] h.1)

pub laid_is_the_layout : (w : ℕ) (d : Doc)
    → IsTheLayoutAt w d (flat_map print (laid w d false 0 0 0))
laid_is_the_layout w d = (laid_is_layout w d, λ u h. layout_is_laid w d u h)
