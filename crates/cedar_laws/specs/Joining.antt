-- The decorated list of two texts with a line feed between them.
use Rattle.std.specs.Prelude.{ℕ, List, [], ◌∷◌, ◌++◌}
use Rattle.cedar_tokens.specs.Listing.{Decorated, Listing, IsListing}
use Rattle.cedar_tokens.specs.Bytes.{line_feed}

-- these comments before those of the first token, or before the closing ones
abbrev pub ahead_tokens : List (List ℕ) → List Decorated → List Decorated
ahead_tokens cs [] = []
ahead_tokens cs (t ∷ ts) = record { text = t.text; leading = cs ++ t.leading; trailing = t.trailing } ∷ ts

abbrev pub ahead_closing : List (List ℕ) → List Decorated → List (List ℕ) → List (List ℕ)
ahead_closing cs [] closing = cs ++ closing
ahead_closing cs (t ∷ ts) closing = closing

-- one list and then another
abbrev pub follow : Listing → Listing → Listing
follow l m = record { tokens = l.tokens ++ ahead_tokens l.closing m.tokens; closing = ahead_closing l.closing m.tokens m.closing }

-- two texts that split, with a line feed between: the list of the first followed by that of the second
abbrev pub LawOfJoining : Type 0
LawOfJoining = (x y : List ℕ) (l m : Listing) → IsListing x l → IsListing y m → IsListing (x ++ (line_feed ∷ y)) (follow l m)
