-- What stays of a text when parts of it are replaced: its list and its line ends.
use Rattle.std.specs.Prelude.{◌≡◌, ◌⊎◌, ℕ, List}
use Rattle.cedar_grammar.specs.Texts.{Accepted}
use Rattle.cedar_edits.specs.Returns.{HasReturns}
use Rattle.cedar_written.specs.Lists.{HaveEqualLists}

-- if the text is accepted, the other is too, and has its list
abbrev pub Keeps : List ℕ → List ℕ → Type 0
Keeps text other = Accepted text → Accepted other × HaveEqualLists text other

-- of two forms of a text, with line feeds alone and with carriage returns before them, the result is the one with the
-- text's line ends: with carriage returns, if the text has them and keeps its list so
abbrev pub InLineEnds : List ℕ → List ℕ → List ℕ → List ℕ → Type 0
InLineEnds text plain returned result = ((HasReturns text × Keeps text returned) × (result ≡ returned)) ⊎ ((¬ (HasReturns text × Keeps text returned)) × (result ≡ plain))
