-- The canonical form: what outputs say about their texts.
use Rattle.std.specs.Prelude.{◌≡◌, ◌↔◌, ℕ, ℤ, List}
use Rattle.std.specs.Str.{IsUtf8}
use Rattle.cedar_tokens.specs.Listing.{Listing, IsListing, EqualByValue}
use Rattle.cedar_laws.specs.Canonical.{plain_listing}
use Rattle.cedar_written.specs.Texts.{Accepted}
use Rattle.cedar_written.specs.Output.{IsOutputOf}

-- an accepted text has an output, which is accepted
abbrev pub AcceptedHasOutput : Type 0
AcceptedHasOutput = (w : ℕ) (i : ℤ) (x : List ℕ) → IsUtf8 x → Accepted x → (y : List ℕ) × IsOutputOf w i x y

abbrev pub OutputIsAccepted : Type 0
OutputIsAccepted = (w : ℕ) (i : ℤ) (x y : List ℕ) → IsUtf8 x → IsOutputOf w i x y → Accepted y

-- the output's own list is the text's plain list by value, and has no trailing comma
abbrev pub OutputHasTheList : Type 0
OutputHasTheList = (w : ℕ) (i : ℤ) (x y : List ℕ) (m : Listing) → IsUtf8 x → (o : IsOutputOf w i x y) → IsListing y m
    → EqualByValue m (plain_listing o.list) × (plain_listing m ≡ m)

-- two texts have equal outputs if and only if their plain lists are equal by value
abbrev pub OutputsTellLists : Type 0
OutputsTellLists = (w : ℕ) (i : ℤ) (x1 x2 y1 y2 : List ℕ) → IsUtf8 x1 → IsUtf8 x2
    → (a : IsOutputOf w i x1 y1) (b : IsOutputOf w i x2 y2)
    → (y1 ≡ y2) ↔ EqualByValue (plain_listing a.list) (plain_listing b.list)

-- the output of an output is itself
abbrev pub OutputIsItsOwn : Type 0
OutputIsItsOwn = (w : ℕ) (i : ℤ) (x y : List ℕ) → IsUtf8 x → IsOutputOf w i x y → IsOutputOf w i y y

-- laying out at one width and indentation and then at another equals laying out at the other
abbrev pub LastWidthDecides : Type 0
LastWidthDecides = (w v : ℕ) (i j : ℤ) (x y z : List ℕ) → IsUtf8 x → IsOutputOf w i x y
    → (IsOutputOf v j y z ↔ IsOutputOf v j x z)
