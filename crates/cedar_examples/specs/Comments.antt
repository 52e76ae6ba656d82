-- The comments of texts.
use Rattle.std.specs.Prelude.{◌≡◌, ◌++◌, ℕ, List}
use Rattle.std.specs.List.{flat_map}
use Rattle.cedar_tokens.specs.Listing.{IsListing, Listing, comments}

-- the comments of a list, in order: those before and after each token, and the closing ones
abbrev pub comments_in : Listing → List (List ℕ)
comments_in l = flat_map (λ t. t.leading ++ comments t.trailing) l.tokens ++ l.closing

-- the text's comments, in order
abbrev pub AreCommentsOf : List ℕ → List (List ℕ) → Type 0
AreCommentsOf text found = (l : Listing) × IsListing text l × (found ≡ comments_in l)

-- both texts split into tokens, and have the same comments in the same order
abbrev pub HaveEqualComments : List ℕ → List ℕ → Type 0
HaveEqualComments a b = (l m : Listing) × IsListing a l × IsListing b m × (comments_in l ≡ comments_in m)
