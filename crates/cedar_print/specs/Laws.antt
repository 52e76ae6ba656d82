-- Layouts without blank lines are the cleaned texts of layouts.
use Rattle.std.specs.Prelude.{◌≡◌, ℕ, true, false, List, [], ◌∷◌, ◌++◌}
use Rattle.std.specs.List.{AllByRecursion, concat, flat_map}
use Rattle.cedar_tokens.specs.Split.{SplitsInto}
use Rattle.cedar_layout.specs.Layout.{Doc, Choice, IsChoiceAt, IsTheLayoutAt, pieces, text_of_choice}
use Rattle.cedar_laws.specs.CleaningLaws.{is_solid}
use Rattle.cedar_written.specs.Cleaning.{IsCleaned, is_feed}
use Rattle.cedar_print.specs.Clean.{units_of, is_blank, IsTheCleanLayoutAt}

-- vs are the units us, but for texts: each one is one unit or more of vs, first a token or a comment, and no line feed
pub data AreCutFrom : List (List ℕ) → List (List ℕ) → Type 0 where
  no_units : AreCutFrom [] []
  a_blank : (u : List ℕ) (us vs : List (List ℕ)) → is_blank u ≡ true → AreCutFrom us vs → AreCutFrom (u ∷ us) (u ∷ vs)
  a_text : (v : List ℕ) (ws us vs : List (List ℕ)) → is_blank (concat (v ∷ ws)) ≡ false → is_solid v ≡ true → AllByRecursion (λ w. is_feed w ≡ false) ws
      → AreCutFrom us vs → AreCutFrom (concat (v ∷ ws) ∷ us) (v ∷ (ws ++ vs))

-- under each choice at the width the text of d splits into units that are cut from those of its pieces
abbrev pub SplitsByPieces : ℕ → Doc → Type 0
SplitsByPieces w d = (c : Choice d) → IsChoiceAt w d c → (vs : List (List ℕ)) × SplitsInto (text_of_choice d c) vs × AreCutFrom (flat_map units_of (pieces d c false 0)) vs

-- then the layout without blank lines is the cleaned text of the layout
abbrev pub CleanLayoutsAreCleaned : Type 0
CleanLayoutsAreCleaned = (w : ℕ) (d : Doc) (x y : List ℕ) → SplitsByPieces w d → IsTheLayoutAt w d x → IsTheCleanLayoutAt w d y → IsCleaned x y
