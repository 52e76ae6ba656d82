-- Keys of policy texts, and a store of them.
use Rattle.std.specs.Prelude.{◌≡◌, ◌↔◌, ◌⊎◌, ℕ, pos, List, Contains}
use Rattle.std.specs.Str.{IsUtf8}
use Rattle.cedar_written.specs.Lists.{HaveEqualLists}
use Rattle.cedar_written.specs.Output.{IsOutputOf}
use Rattle.cedar_written.specs.Texts.{Accepted}

-- the text's key: its output at 80 columns per line and 2 per level
abbrev pub IsKeyOf : List ℕ → List ℕ → Type 0
IsKeyOf text key = IsOutputOf 80 (pos 2) text key

-- two texts have equal keys if and only if their decorated lists without trailing commas are equal by value
abbrev pub KeysTellLists : Type 0
KeysTellLists = (a b j k : List ℕ) → IsUtf8 a → IsUtf8 b → IsKeyOf a j → IsKeyOf b k → (j ≡ k) ↔ HaveEqualLists a b

-- the text's key is among the keys of a store
abbrev pub HasKeyOf : List (List ℕ) → List ℕ → Type 0
HasKeyOf store text = (key : List ℕ) × Contains store key × IsKeyOf text key

-- a store has gained a text: it has the keys of the texts whose keys it had, and of those with this text's list
abbrev pub Gains : List (List ℕ) → List (List ℕ) → List ℕ → Type 0
Gains old new text = (x : List ℕ) → IsUtf8 x → Accepted x → HasKeyOf new x ↔ (HasKeyOf old x ⊎ HaveEqualLists x text)
