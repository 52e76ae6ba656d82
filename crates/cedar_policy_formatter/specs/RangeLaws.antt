-- What edits that preserve the list of a text preserve of its output.
use Rattle.std.specs.Prelude.{ℕ, ℤ, List}
use Rattle.std.specs.Str.{IsUtf8}
use Rattle.cedar_grammar.specs.Texts.{Accepted}
use Rattle.cedar_laws.specs.Canonical.{IsOutputOf}
use Rattle.cedar_written.specs.Lists.{HaveEqualLists}

-- an accepted text with the list of another has its output
abbrev pub EqualListsHaveOneOutput : Type 0
EqualListsHaveOneOutput = (w : ℕ) (i : ℤ) (x y z : List ℕ) → IsUtf8 x → IsUtf8 y → Accepted y → HaveEqualLists x y → IsOutputOf w i x z → IsOutputOf w i y z

-- a text has the list of the first if it has the list of one that has it
abbrev pub EqualListsFollow : Type 0
EqualListsFollow = (x y z : List ℕ) → HaveEqualLists x y → HaveEqualLists y z → HaveEqualLists x z
