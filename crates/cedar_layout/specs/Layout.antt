-- Documents and their layouts. A text is the list of its bytes.
use Rattle.std.specs.Prelude.{◌≡◌, ℕ, suc, ◌+◌, ◌-◌, ◌^◌, ◌≤◌, min, Bool, true, false, ◌||◌, if◌then◌else◌, ◌⊎◌, ◌↔◌, IsTrue, IsFalse, List, [], ◌∷◌, ◌++◌, ⊤, ℤ, pos, negsuc, chars, replicate}
use Rattle.std.specs.List.{AllByRecursion, flat_map}
use Rattle.unicode_width.specs.Width.{str_width}
use Rattle.cedar_tokens.specs.Bytes as byte

-- ---- documents

-- A document is a list of things to lay out in order. What is nested or grouped is a document of its own.
-- So two documents are equal if and only if they differ only in `Nil` and in how sequences are nested.
pub data Doc : Type 0 where
  nil : Doc
  text_then : List ℕ → Doc → Doc
  line_then : Doc → Doc
  line_or_nil_then : Doc → Doc
  hard_then : Doc → Doc
  nest_then : ℤ → Doc → Doc → Doc
  group_then : Doc → Doc → Doc

-- one document after the other
infixr 6 ◌·◌
abbrev pub ◌·◌ : Doc → Doc → Doc
nil · e = e
text_then s r · e = text_then s (r · e)
line_then r · e = line_then (r · e)
line_or_nil_then r · e = line_or_nil_then (r · e)
hard_then r · e = hard_then (r · e)
nest_then n d r · e = nest_then n d (r · e)
group_then d r · e = group_then d (r · e)

abbrev pub text : List ℕ → Doc
text s = text_then s nil

abbrev pub line : Doc
line = line_then nil

abbrev pub line_or_nil : Doc
line_or_nil = line_or_nil_then nil

abbrev pub hard : Doc
hard = hard_then nil

abbrev pub nest : ℤ → Doc → Doc
nest n d = nest_then n d nil

abbrev pub group : Doc → Doc
group d = group_then d nil

-- what prints or breaks in a document, in order
pub data Atom : Type 0 where
  word : List ℕ → Atom
  space_or_break : Atom
  nothing_or_break : Atom
  must_break : Atom

abbrev pub atoms : Doc → List Atom
atoms nil = []
atoms (text_then s r) = word s ∷ atoms r
atoms (line_then r) = space_or_break ∷ atoms r
atoms (line_or_nil_then r) = nothing_or_break ∷ atoms r
atoms (hard_then r) = must_break ∷ atoms r
atoms (nest_then n d r) = atoms d ++ atoms r
atoms (group_then d r) = atoms d ++ atoms r

-- the columns of a text
unfoldable pub columns : List ℕ → ℕ
columns s = str_width false (chars s)

-- the columns of a content that is laid out flat
abbrev pub flat_columns_of : Atom → ℕ
flat_columns_of (word s) = columns s
flat_columns_of space_or_break = 1
flat_columns_of nothing_or_break = 0
flat_columns_of must_break = 0

abbrev pub flat_columns : List Atom → ℕ
flat_columns [] = 0
flat_columns (x ∷ xs) = flat_columns_of x + flat_columns xs

-- ---- layouts

-- A choice marks each group of a document as flat (true) or broken.
abbrev pub Choice : Doc → Type 0
Choice nil = ⊤
Choice (text_then s r) = Choice r
Choice (line_then r) = Choice r
Choice (line_or_nil_then r) = Choice r
Choice (hard_then r) = Choice r
Choice (nest_then n d r) = Choice d × Choice r
Choice (group_then d r) = Bool × Choice d × Choice r

-- What a layout writes: a text, the space of a flat `Line`, the nothing of a flat `LineOrNil`, or a break.
pub data Piece : Type 0 where
  written : List ℕ → Piece
  flat_space : Piece
  flat_nothing : Piece
  broken : ℕ → Piece

abbrev pub print : Piece → List ℕ
print (written s) = s
print flat_space = byte.space_character ∷ []
print flat_nothing = []
print (broken i) = byte.line_feed ∷ replicate i byte.space_character

-- an indentation plus a nesting, capped at 0 and at the greatest `usize`, which has 64 bits
abbrev pub indented : ℕ → ℤ → ℕ
indented i (pos n) = min (i + n) (2 ^ 64 - 1)
indented i (negsuc n) = i - suc n

-- The pieces of a layout, one for each atom. `flat` says that the document is in a flat group.
abbrev pub pieces : (d : Doc) → Choice d → Bool → ℕ → List Piece
pieces nil c flat i = []
pieces (text_then s r) c flat i = written s ∷ pieces r c flat i
pieces (line_then r) c flat i = (if flat then flat_space else broken i) ∷ pieces r c flat i
pieces (line_or_nil_then r) c flat i = (if flat then flat_nothing else broken i) ∷ pieces r c flat i
pieces (hard_then r) c flat i = broken i ∷ pieces r c flat i
pieces (nest_then n d r) c flat i = pieces d c.0 flat (indented i n) ++ pieces r c.1 flat i
pieces (group_then d r) c flat i = pieces d c.1 (flat || c.0) i ++ pieces r c.2 flat i

-- the text of the layout that a choice gives
abbrev pub text_of_choice : (d : Doc) → Choice d → List ℕ
text_of_choice d c = flat_map print (pieces d c false 0)

-- ---- the layout at a width

-- the column after pieces that begin at a column
abbrev pub column_after : ℕ → List Piece → ℕ
column_after col [] = col
column_after col (written s ∷ ps) = column_after (col + columns s) ps
column_after col (flat_space ∷ ps) = column_after (col + 1) ps
column_after col (flat_nothing ∷ ps) = column_after col ps
column_after col (broken i ∷ ps) = column_after i ps

-- Where a group is in a layout: whether inside a flat group, its column, its content, what follows it in the whole
-- document, and how the choice marks it.
pub record Place : Type 0 where
  pub inside_flat : Bool
  pub column : ℕ
  pub content : List Atom
  pub after : List Atom
  pub is_flat : Bool

-- the places of all groups of a document, under a choice
abbrev pub group_places : (d : Doc) → Choice d → Bool → ℕ → ℕ → List Atom → List Place
group_places nil c flat i col after = []
group_places (text_then s r) c flat i col after = group_places r c flat i (col + columns s) after
group_places (line_then r) c flat i col after = group_places r c flat i (if flat then col + 1 else i) after
group_places (line_or_nil_then r) c flat i col after = group_places r c flat i (if flat then col else i) after
group_places (hard_then r) c flat i col after = group_places r c flat i i after
group_places (nest_then n d r) c flat i col after =
    group_places d c.0 flat (indented i n) col (atoms r ++ after)
    ++ group_places r c.1 flat i (column_after col (pieces d c.0 flat (indented i n))) after
group_places (group_then d r) c flat i col after =
    record { inside_flat = flat; column = col; content = atoms d; after = atoms r ++ after; is_flat = c.0 }
    ∷ (group_places d c.1 (flat || c.0) i col (atoms r ++ after)
    ++ group_places r c.2 flat i (column_after col (pieces d c.1 (flat || c.0) i)) after)

-- the texts up to the first `Line`, `LineOrNil` or `Hard`
abbrev pub tail : List Atom → List (List ℕ)
tail [] = []
tail (word s ∷ xs) = s ∷ tail xs
tail (_ ∷ xs) = []

abbrev pub columns_of_all : List (List ℕ) → ℕ
columns_of_all [] = 0
columns_of_all (s ∷ ss) = columns s + columns_of_all ss

abbrev pub has_hard : List Atom → Bool
has_hard [] = false
has_hard (must_break ∷ xs) = true
has_hard (_ ∷ xs) = has_hard xs

-- the group has no `Hard`, and its column, its flat columns and those of its tail aren't above the width
abbrev pub Fits : ℕ → Place → Type 0
Fits w p = IsFalse (has_hard p.content) × (p.column + flat_columns p.content + columns_of_all (tail p.after) ≤ w)

-- a group is flat if and only if it is inside a flat one or fits
abbrev pub FollowsRule : ℕ → Place → Type 0
FollowsRule w p = IsTrue p.is_flat ↔ (IsTrue p.inside_flat ⊎ Fits w p)

-- the choice follows the rule at each group, where the layout begins in column 0 with indentation 0
abbrev pub IsChoiceAt : ℕ → (d : Doc) → Choice d → Type 0
IsChoiceAt w d c = AllByRecursion (FollowsRule w) (group_places d c false 0 0 [])

-- t is the layout of d at the width w
abbrev pub IsLayoutAt : ℕ → Doc → List ℕ → Type 0
IsLayoutAt w d t = (c : Choice d) × IsChoiceAt w d c × (t ≡ text_of_choice d c)

-- t is the one layout of d at the width w
abbrev pub IsTheLayoutAt : ℕ → Doc → List ℕ → Type 0
IsTheLayoutAt w d t = IsLayoutAt w d t × ((u : List ℕ) → IsLayoutAt w d u → u ≡ t)

-- ---- atoms and pieces

-- a piece is what a layout can make from an atom
abbrev pub IsMadeOf : Piece → Atom → Type 0
IsMadeOf (written u) (word s) = u ≡ s
IsMadeOf flat_space space_or_break = ⊤
IsMadeOf flat_nothing nothing_or_break = ⊤
IsMadeOf (broken i) space_or_break = ⊤
IsMadeOf (broken i) nothing_or_break = ⊤
IsMadeOf (broken i) must_break = ⊤
IsMadeOf _ _ = ⊥

-- each piece is made from the atom at its place
abbrev pub AreMadeOf : List Piece → List Atom → Type 0
AreMadeOf [] [] = ⊤
AreMadeOf (p ∷ ps) (x ∷ xs) = IsMadeOf p x × AreMadeOf ps xs
AreMadeOf _ _ = ⊥
