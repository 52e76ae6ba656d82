-- Laws of cleaning.
use Rattle.std.specs.Prelude.{◌≡◌, ℕ, Bool, ◌||◌, if◌then◌else◌, List, [], ◌∷◌, ◌++◌}
use Rattle.std.specs.List.{AllByRecursion}
use Rattle.std.specs.Str.{trim, IsUtf8}
use Rattle.cedar_tokens.specs.Units.{IsBlank, is_token, is_comment}
use Rattle.cedar_tokens.specs.Split.{SplitsInto, Splits}
use Rattle.cedar_tokens.specs.Listing.{Listing, IsListing}
use Rattle.cedar_layout.specs.Cleaning.{IsCleaned}
use Rattle.cedar_tokens.specs.Bytes.{line_feed}

-- every text has exactly one text without the blank lines of its pieces, and so exactly one cleaned text
abbrev pub CleaningIsUnique : Type 0
CleaningIsUnique = (x y z : List ℕ) → IsCleaned x y → IsCleaned x z → y ≡ z

abbrev pub EveryTextIsCleaned : Type 0
EveryTextIsCleaned = (x : List ℕ) → (y : List ℕ) × IsCleaned x y

-- a cleaned text has the decorated list of the text
abbrev pub CleaningKeepsTheList : Type 0
CleaningKeepsTheList = (x y : List ℕ) (l : Listing) → IsUtf8 x → IsCleaned x y → IsListing x l → IsListing y l

-- a token or a comment
abbrev pub is_solid : List ℕ → Bool
is_solid u = is_token u || is_comment u

-- vs is us without some of its blanks
pub data Thinned : List (List ℕ) → List (List ℕ) → Type 0 where
  no_units : Thinned [] []
  unit_stays : (u : List ℕ) {us vs : List (List ℕ)} → Thinned us vs → Thinned (u ∷ us) (u ∷ vs)
  blank_goes : (u : List ℕ) {us vs : List (List ℕ)} → IsBlank u → Thinned us vs → Thinned (u ∷ us) vs

-- the units; if the last is a comment, without the blanks at its end
abbrev pub with_last_trimmed : List (List ℕ) → List (List ℕ)
with_last_trimmed [] = []
with_last_trimmed (u ∷ []) = (if is_comment u then trim u else u) ∷ []
with_last_trimmed (u ∷ (v ∷ us)) = u ∷ with_last_trimmed (v ∷ us)

-- cleaning removes only blanks between tokens and comments, and those at the end of a last comment; strings stay unchanged
abbrev pub CleaningTakesBlanks : Type 0
CleaningTakesBlanks = (x y : List ℕ) (us : List (List ℕ)) → IsUtf8 x → SplitsInto x us → IsCleaned x y → (vs : List (List ℕ)) × Thinned us vs × SplitsInto y (with_last_trimmed vs)

-- between two line feeds there are more than blanks
abbrev pub NoBlankLine : List (List ℕ) → Type 0
NoBlankLine us = (front blanks following : List (List ℕ)) → us ≡ front ++ ((line_feed ∷ []) ∷ (blanks ++ ((line_feed ∷ []) ∷ following))) → ¬ (AllByRecursion IsBlank blanks)

-- outside its strings a cleaned text has no blank line, and no blank at its start or end
abbrev pub CleaningLeavesNoBlankLine : Type 0
CleaningLeavesNoBlankLine = (x y : List ℕ) (us : List (List ℕ)) → IsUtf8 x → Splits x → IsCleaned x y → SplitsInto y us → NoBlankLine us × (trim y ≡ y)
