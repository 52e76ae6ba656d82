-- Changes of a text.
use Rattle.std.specs.Prelude.{◌≡◌, ◌≤◌, ℕ, List, [], ◌∷◌, ◌++◌, take, drop, slice_range, max, string_bytes}
use Rattle.cedar_edits.specs.declared.changes.Change.{Change}
use Rattle.cedar_edits.specs.declared.changes.Change.TheVariants.{Whole, Part}
use Rattle.cedar_edits.specs.declared.changes.PlacedEdit.{PlacedEdit}
use Rattle.cedar_edits.specs.declared.changes.Range.{Range}
use Rattle.cedar_edits.specs.declared.positions.Encoding.{Encoding}
use Rattle.cedar_edits.specs.Positions.{IsOffsetOf}

-- the text with these bytes in place of those from a on and before b
abbrev pub replaced : List ℕ → ℕ → ℕ → List ℕ → List ℕ
replaced text a b put = take a text ++ put ++ drop (max a b) text

-- the new text has these bytes in place of the range in the old one
abbrev pub Puts : Encoding → Range → List ℕ → List ℕ → List ℕ → Type 0
Puts e r put old new = (a b : ℕ) × IsOffsetOf e old r.start a × IsOffsetOf e old r.end b × (new ≡ replaced old a b put)

-- the new text is what the change makes of the old one
abbrev pub Makes : Encoding → Change → List ℕ → List ℕ → Type 0
Makes e (Whole text) old new = new ≡ string_bytes text
Makes e (Part r text) old new = Puts e r (string_bytes text) old new

-- the new text is what the changes make of the old one, one after the other
abbrev pub MakeInTurn : Encoding → List Change → List ℕ → List ℕ → Type 0
MakeInTurn e [] old new = new ≡ old
MakeInTurn e (c ∷ cs) old new = (mid : List ℕ) × Makes e c old mid × MakeInTurn e cs mid new

-- from the byte `from` of the old text on, the new one has each edit's text in place of its range: the ranges are in the old
-- text, in order, and don't overlap
abbrev pub PutsAllFrom : Encoding → List PlacedEdit → List ℕ → ℕ → List ℕ → Type 0
PutsAllFrom e [] old from new = new ≡ drop from old
PutsAllFrom e (edit ∷ edits) old from new = (a b : ℕ) × (rest : List ℕ) × IsOffsetOf e old edit.range.start a × IsOffsetOf e old edit.range.end b × (from ≤ a) × (a ≤ b)
    × PutsAllFrom e edits old b rest × (new ≡ slice_range old from a ++ (string_bytes edit.text ++ rest))

-- the new text has each edit's text in place of its range, and is otherwise the old one
abbrev pub PutsAll : Encoding → List PlacedEdit → List ℕ → List ℕ → Type 0
PutsAll e edits old new = PutsAllFrom e edits old 0 new
