-- What an output has in common with its text, and with other outputs.
use Rattle.std.specs.Prelude.{◌≡◌, ℕ, ℤ, List}
use Rattle.std.specs.Str.{IsUtf8}
use Rattle.cedar_tokens.specs.Listing.{Listing, IsListing, EqualByValue}
use Rattle.cedar_laws.specs.Canonical.{plain_listing}
use Rattle.cedar_written.specs.Output.{IsOutputOf}

-- the texts' decorated lists without trailing commas are equal by value
abbrev pub HaveEqualLists : List ℕ → List ℕ → Type 0
HaveEqualLists x y = (l m : Listing) × IsListing x l × IsListing y m × EqualByValue (plain_listing l) (plain_listing m)

-- an output has the list of its text: nothing is lost, added or moved
abbrev pub OutputKeepsTheList : Type 0
OutputKeepsTheList = (w : ℕ) (i : ℤ) (x y : List ℕ) → IsUtf8 x → IsOutputOf w i x y → HaveEqualLists x y

-- texts with equal lists have equal outputs: how they were laid out before doesn't matter
abbrev pub EqualListsHaveEqualOutputs : Type 0
EqualListsHaveEqualOutputs = (w : ℕ) (i : ℤ) (x y u v : List ℕ) → IsUtf8 x → IsUtf8 y → HaveEqualLists x y
    → IsOutputOf w i x u → IsOutputOf w i y v → u ≡ v
