-- The layout of a document at a width, as a function: a group is flat if it is in a flat one or fits.
use Rattle.std.specs.Prelude.{ℕ, ◌+◌, Bool, false, not, ◌&&◌, ◌||◌, nat_le, if◌then◌else◌, List, [], ◌∷◌, ◌++◌, replicate}
use Rattle.cedar_tokens.specs.Bytes as byte
use Rattle.cedar_layout.specs.Layout.{Doc, nil, text_then, line_then, line_or_nil_then, hard_then, nest_then, group_then, Atom, atoms, columns, flat_columns, columns_of_all, has_hard, indented, tail}

-- A group fits at a column if it has no `Hard`, and the column, its flat columns and those of the texts after it, up to
-- the first `Line`, `LineOrNil` or `Hard`, are together at most the width w.
abbrev pub fits : ℕ → ℕ → List Atom → List Atom → Bool
fits w col content after = not (has_hard content) && nat_le (col + flat_columns content + columns_of_all (tail after)) w

-- a line feed and the indentation, and the column after them
abbrev pub break : ℕ → List ℕ × ℕ
break i = (byte.line_feed ∷ replicate i byte.space_character, i)

-- what is written first, and what is written from the column after it on
abbrev pub and_then : List ℕ × ℕ → (ℕ → List ℕ × ℕ) → List ℕ × ℕ
and_then a rest = let b = rest a.1 in (a.0 ++ b.0, b.1)

-- What a document writes from a column on, and the column after it. `flat` says whether it is in a flat group; i is the
-- indentation; `after` is what follows in the whole document.
abbrev pub laid : ℕ → Bool → ℕ → ℕ → List Atom → Doc → List ℕ × ℕ
laid w flat i col after nil = ([], col)
laid w flat i col after (text_then s r) = and_then (s, col + columns s) (λ c. laid w flat i c after r)
laid w flat i col after (line_then r) =
    and_then (if flat then (byte.space_character ∷ [], col + 1) else break i) (λ c. laid w flat i c after r)
laid w flat i col after (line_or_nil_then r) =
    and_then (if flat then ([], col) else break i) (λ c. laid w flat i c after r)
laid w flat i col after (hard_then r) = and_then (break i) (λ c. laid w flat i c after r)
laid w flat i col after (nest_then n d r) =
    and_then (laid w flat (indented i n) col (atoms r ++ after) d) (λ c. laid w flat i c after r)
laid w flat i col after (group_then d r) =
    let now_flat = flat || fits w col (atoms d) (atoms r ++ after) in
    and_then (laid w now_flat i col (atoms r ++ after) d) (λ c. laid w flat i c after r)

-- the layout of a document at the width w, which begins in column 0 with indentation 0
abbrev pub layout : ℕ → Doc → List ℕ
layout w d = (laid w false 0 0 [] d).0
