use Rattle.std.specs.Prelude.{◌≡◌, ℕ, ℤ, false, List, [], ◌∷◌, ◌++◌}
use Rattle.cedar_grammar.specs.TypedTrees.{Clause, policy, part_yield}
use Rattle.cedar_layout.specs.Layout.{Choice, text_of_choice}
use Rattle.cedar_laws.specs.Table.{part_table}
use Rattle.cedar_laws.specs.Neighbours.{glues, first_or}
use Rattle.cedar_laws.specs.Fit.{PartFit, after_of}
use Rattle.cedar_tokens.specs.Listing.{Decorated, token_value}
use Rattle.cedar_tokens.specs.Bytes.{line_feed, space_character}

-- only line feeds and spaces
pub data Blanks : List ℕ → Type 0 where
  no_blank : Blanks []
  a_space : {s : List ℕ} → Blanks s → Blanks (space_character ∷ s)
  a_feed : {s : List ℕ} → Blanks s → Blanks (line_feed ∷ s)

-- these lines, each ended by a line feed, with blanks before, between and after them
pub data Lines : List (List ℕ) → List ℕ → Type 0 where
  no_line : {b : List ℕ} → Blanks b → Lines [] b
  a_comment : {b g : List ℕ} {ls : List (List ℕ)} (l : List ℕ) → Blanks b → Lines ls g → Lines (l ∷ ls) (b ++ (l ++ (line_feed ∷ g)))

-- the text before a token: if the token has leading lines, a line feed comes before them
pub data Front : List (List ℕ) → List ℕ → Type 0 where
  bare : {b : List ℕ} → Blanks b → Front [] b
  led : {b g : List ℕ} {l : List ℕ} {ls : List (List ℕ)} → Blanks b → Lines (l ∷ ls) g → Front (l ∷ ls) (b ++ (line_feed ∷ g))

-- the text after a token: a trailing text ends at a line feed
abbrev pub back : List ℕ → List ℕ
back [] = []
back (c ∷ cs) = space_character ∷ ((c ∷ cs) ++ (line_feed ∷ []))

-- the character before a token: if g is empty, the last character before g, else a blank
abbrev pub front_end : ℕ → List ℕ → ℕ
front_end c [] = c
front_end c (x ∷ g) = space_character

-- The law of gaps: the text is the tokens in order. Between two of them are only blanks, the trailing text of the first,
-- blanks, the leading lines of the second and blanks; and no two of them could be parts of one unit.
-- c is the character before the text, a space for any blank.
pub data Spelled : ℕ → List Decorated → List ℕ → Type 0 where
  the_end : {c : ℕ} {b : List ℕ} → Blanks b → Spelled c [] b
  a_token : {c : ℕ} {g s : List ℕ} {ts : List Decorated} (t : Decorated) → Front t.leading g → glues (front_end c g) (first_or space_character (token_value t.text)) ≡ false → Spelled (after_of (token_value t.text) t.trailing) ts s → Spelled c (t ∷ ts) (g ++ (token_value t.text ++ (back t.trailing ++ s)))

-- under every choice of flat and broken groups, at every indentation
abbrev pub LawOfGaps : Type 0
LawOfGaps = (i : ℤ) (t : Clause Decorated policy) (c : Choice (part_table i t)) → PartFit t → Spelled space_character (part_yield t) (text_of_choice (part_table i t) c)
