-- The documents of comments and brackets.
use Rattle.std.specs.Prelude.{ℕ, ℤ, List, [], ◌∷◌}
use Rattle.cedar_layout.specs.Layout.{Doc, nil, text, hard, nest, ◌·◌}
use Rattle.cedar_tokens.specs.Bytes as byte

abbrev pub space : Doc
space = text (byte.space_character ∷ [])

-- each line, and a break after it
abbrev pub broken_lines : List (List ℕ) → Doc
broken_lines [] = nil
broken_lines (l ∷ ls) = text l · hard · broken_lines ls

-- the leading lines of a token, on lines of their own
abbrev pub lead_of : List (List ℕ) → Doc
lead_of [] = nil
lead_of (l ∷ ls) = hard · broken_lines (l ∷ ls)

-- the trailing text of a token, which ends the line; next where it is empty
abbrev pub trail_of : List ℕ → Doc → Doc
trail_of [] next = next
trail_of (c ∷ cs) next = space · text (c ∷ cs) · hard

-- a document between brackets, its breaks indented
abbrev pub bracketed : Doc → Doc → Doc → ℤ → Doc
bracketed d left right n = left · nest n d · right
