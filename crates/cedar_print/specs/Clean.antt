-- The layout of a document without its blank lines, trimmed. A blank line has only blanks between two line feeds.
use Rattle.std.specs.Prelude.{◌≡◌, ℕ, Bool, false, true, ◌&&◌, ◌||◌, ◌==◌, if◌then◌else◌, List, [], ◌∷◌, ◌++◌, replicate}
use Rattle.std.specs.List.{flat_map, list_any, take_while}
use Rattle.std.specs.Str.{trim}
use Rattle.cedar_tokens.specs.Bytes.{line_feed, space_character}
use Rattle.cedar_written.specs.Cleaning.{is_feed}
use Rattle.cedar_layout.specs.Layout.{Doc, Choice, IsChoiceAt, Piece, written, flat_space, flat_nothing, broken, pieces}

abbrev pub space : List ℕ
space = space_character ∷ []

abbrev pub feed : List ℕ
feed = line_feed ∷ []

-- the units of a piece: a text, or blanks
abbrev pub units_of : Piece → List (List ℕ)
units_of (written s) = s ∷ []
units_of flat_space = space ∷ []
units_of flat_nothing = []
units_of (broken i) = feed ∷ replicate i space

abbrev pub is_space : List ℕ → Bool
is_space (b ∷ []) = b == space_character
is_space _ = false

-- the unit is a line feed or a space
abbrev pub is_blank : List ℕ → Bool
is_blank u = is_feed u || is_space u

-- The units without blank lines. `fed` says whether a line feed is before them, and since then only blanks: then they
-- begin with what is left of a blank line if a line feed is among the blanks that they begin with.
abbrev pub without_blank_lines : Bool → List (List ℕ) → List ℕ
without_blank_lines fed [] = []
without_blank_lines fed (u ∷ us) = if fed && list_any is_feed (take_while is_blank (u ∷ us))
    then without_blank_lines true us
    else u ++ without_blank_lines (is_feed u || (fed && is_blank u)) us

-- u is the layout of d at the width w, without its blank lines
abbrev pub IsUntrimmedLayoutAt : ℕ → Doc → List ℕ → Type 0
IsUntrimmedLayoutAt w d u = (c : Choice d) × IsChoiceAt w d c × (u ≡ without_blank_lines false (flat_map units_of (pieces d c false 0)))

-- t is that, trimmed
abbrev pub IsCleanLayoutAt : ℕ → Doc → List ℕ → Type 0
IsCleanLayoutAt w d t = (c : Choice d) × IsChoiceAt w d c × (t ≡ trim (without_blank_lines false (flat_map units_of (pieces d c false 0))))

-- and no other text is
abbrev pub IsTheCleanLayoutAt : ℕ → Doc → List ℕ → Type 0
IsTheCleanLayoutAt w d t = IsCleanLayoutAt w d t × ((u : List ℕ) → IsCleanLayoutAt w d u → u ≡ t)
