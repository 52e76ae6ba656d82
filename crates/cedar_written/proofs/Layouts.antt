-- The layout as a function is the one layout that follows the rule.
use Rattle.std.proofs.Common.{◌≡◌, ℕ, ◌+◌, Bool, true, false, ◌||◌, List, [], ◌++◌, refl, sym, ap, ◌∙◌, subst}
use Rattle.std.specs.List.{flat_map}
use Rattle.std.proofs.lemmas.Grind.{flat_map-append}
use Rattle.cedar_layout.specs.Layout.{Doc, nil, text_then, line_then, line_or_nil_then, hard_then, nest_then, group_then, Atom, atoms, columns, Piece, flat_space, broken, print, indented, column_after, tail, columns_of_all, IsTheLayoutAt}
use Rattle.cedar_layout.specs.Inside.Computed as C
use Rattle.cedar_layout.proofs.Laid.{column_after-append}
use Rattle.cedar_layout.proofs.Rule.{columns_of_tail-append, laid_is_the_layout}
use Rattle.cedar_written.specs.Layout.{fits, laid, layout}
use Rattle.cedar_written.specs.Laws.{LayoutsAgree}

-- what the pieces write from a column on, and the column after them
abbrev out : ℕ → List Piece → List ℕ × ℕ
out col ps = (flat_map print ps, column_after col ps)

joined : (col : ℕ) (ps qs : List Piece)
    → (flat_map print ps ++ flat_map print qs, column_after (column_after col ps) qs)
    ≡ out col (ps ++ qs)
joined col ps qs =
    ap (λ z. (z, column_after (column_after col ps) qs)) (sym (flat_map-append print ps qs))
    ∙ ap (λ z. (flat_map print (ps ++ qs), z)) (sym (column_after-append col ps qs))

-- a nest or a group and what follows it
and_rest : (w : ℕ) (flat : Bool) (i col t : ℕ) (after : List Atom) (r : Doc) (a : List ℕ × ℕ)
    (ps : List Piece) → a ≡ out col ps
    → laid w flat i (column_after col ps) after r
    ≡ out (column_after col ps) (C.laid w r flat i (column_after col ps) t)
    → (a.0 ++ (laid w flat i a.1 after r).0, (laid w flat i a.1 after r).1)
    ≡ out col (ps ++ C.laid w r flat i (column_after col ps) t)
and_rest w flat i col t after r a ps e h =
    ap (λ (b : List ℕ × ℕ). (b.0 ++ (laid w flat i b.1 after r).0, (laid w flat i b.1 after r).1)) e
    ∙ (ap (λ (b : List ℕ × ℕ). (flat_map print ps ++ b.0, b.1)) h
    ∙ joined col ps (C.laid w r flat i (column_after col ps) t))

same : (w : ℕ) (d : Doc) (flat : Bool) (i col : ℕ) (after : List Atom)
    → laid w flat i col after d ≡ out col (C.laid w d flat i col (columns_of_all (tail after)))
same w nil flat i col after = refl
same w (text_then s r) flat i col after =
    ap (λ b. (s ++ b.0, b.1)) (same w r flat i (col + columns s) after)
same w (line_then r) true i col after =
    ap (λ b. (print flat_space ++ b.0, b.1)) (same w r true i (col + 1) after)
same w (line_then r) false i col after =
    ap (λ b. (print (broken i) ++ b.0, b.1)) (same w r false i i after)
same w (line_or_nil_then r) true i col after =
    ap (λ b. (b.0, b.1)) (same w r true i col after)
same w (line_or_nil_then r) false i col after =
    ap (λ b. (print (broken i) ++ b.0, b.1)) (same w r false i i after)
same w (hard_then r) flat i col after =
    ap (λ b. (print (broken i) ++ b.0, b.1)) (same w r flat i i after)
same w (nest_then n d r) flat i col after =
    let s = columns_of_all (tail after) in
    let e = columns_of_tail-append (atoms r) after in
    and_rest w flat i col s after r (laid w flat (indented i n) col (atoms r ++ after) d)
    (C.laid w d flat (indented i n) col (C.tail_then (atoms r) s))
    (same w d flat (indented i n) col (atoms r ++ after)
    ∙ ap (λ t. out col (C.laid w d flat (indented i n) col t)) e)
    (same w r flat i _ after)
same w (group_then d r) flat i col after =
    let s = columns_of_all (tail after) in
    let t = C.tail_then (atoms r) s in
    let e = columns_of_tail-append (atoms r) after in
    let b = flat || fits w col (atoms d) (atoms r ++ after) in
    and_rest w flat i col s after r (laid w b i col (atoms r ++ after) d)
    (C.laid w d (flat || C.fits w (atoms d) col t) i col t)
    (same w d b i col (atoms r ++ after)
    ∙ ap (λ z. out col (C.laid w d (flat || C.fits w (atoms d) col z) i col z)) e)
    (same w r flat i _ after)

layout_is : (w : ℕ) (d : Doc) → layout w d ≡ flat_map print (C.laid w d false 0 0 0)
layout_is w d = ap (λ (b : List ℕ × ℕ). b.0) (same w d false 0 0 [])

-- the function gives the one layout
pub layout_at : (w : ℕ) (d : Doc) → IsTheLayoutAt w d (layout w d)
layout_at w d = subst (IsTheLayoutAt w d) (sym (layout_is w d)) (laid_is_the_layout w d)

pub layouts_agree : LayoutsAgree
layouts_agree w d t = (there, back)
  where
    there : IsTheLayoutAt w d t → t ≡ layout w d
    there a = (layout_at w d).1 t a.0

    back : t ≡ layout w d → IsTheLayoutAt w d t
    back e = subst (IsTheLayoutAt w d) (sym e) (layout_at w d)
