-- Marks: a document as it is written, from left to right. Where a group or a nest begins and where it ends are marks of their
-- own. A beginning doesn't say yet whether there is a group: its end does.
use Rattle.std.specs.Prelude.{ℕ, ℤ, List, [], ◌∷◌, ◌++◌}
use Rattle.cedar_tokens.specs.Bytes as byte
use Rattle.cedar_tokens.specs.Listing.{Decorated, token_value}
use Rattle.cedar_layout.specs.Layout.{Doc, nil, group, ◌·◌}
use Rattle.cedar_layout.specs.Layout as D

pub data Mark : Type 0 where
  text : List ℕ → Mark
  line line_or_nil hard : Mark
  nest : ℤ → Mark
  end_nest : Mark
  begin end_group end_nothing : Mark

-- these are the marks of this document
pub data AreMarks : List Mark → Doc → Type 0 where
  none : AreMarks [] nil
  both : (ms ns : List Mark) (d e : Doc) → AreMarks ms d → AreMarks ns e → AreMarks (ms ++ ns) (d · e)
  a_text : (s : List ℕ) → AreMarks (text s ∷ []) (D.text s)
  a_line : AreMarks (line ∷ []) D.line
  a_line_or_nil : AreMarks (line_or_nil ∷ []) D.line_or_nil
  a_hard : AreMarks (hard ∷ []) D.hard
  a_nest : (n : ℤ) (ms : List Mark) (d : Doc) → AreMarks ms d → AreMarks (nest n ∷ (ms ++ (end_nest ∷ []))) (D.nest n d)
  a_group : (ms : List Mark) (d : Doc) → AreMarks ms d → AreMarks (begin ∷ (ms ++ (end_group ∷ []))) (group d)
  no_group : (ms : List Mark) (d : Doc) → AreMarks ms d → AreMarks (begin ∷ (ms ++ (end_nothing ∷ []))) d

-- ---- the marks of a token

abbrev pub space : Mark
space = text (byte.space_character ∷ [])

-- each line, and a break after it
abbrev pub broken_lines : List (List ℕ) → List Mark
broken_lines [] = []
broken_lines (l ∷ ls) = text l ∷ hard ∷ broken_lines ls

-- the leading lines of a token, on lines of their own
abbrev pub lead_of : List (List ℕ) → List Mark
lead_of [] = []
lead_of (l ∷ ls) = hard ∷ broken_lines (l ∷ ls)

-- the trailing text of a token, which ends the line; `next` where it is empty
abbrev pub trail_of : List ℕ → List Mark → List Mark
trail_of [] next = next
trail_of (c ∷ cs) next = space ∷ text (c ∷ cs) ∷ hard ∷ []

-- a token between its comments, with `inside` between its text and its trailing text
abbrev pub marks_of : Decorated → List Mark → List Mark → List Mark
marks_of t inside next = lead_of t.leading ++ (text (token_value t.text) ∷ (inside ++ trail_of t.trailing next))
