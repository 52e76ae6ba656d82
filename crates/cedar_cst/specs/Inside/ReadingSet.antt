-- What parsing conditions and all policies gives, in terms of the reader.
use Rattle.std.specs.Prelude.{◌≡◌, true, false, List, [], ◌∷◌, ◌⊎◌, length, Result, Ok, Err}
use Rattle.cedar_grammar.specs.Trees.{Label, Forest}
use Rattle.cedar_grammar.specs.Reader.Reading.{Answer, done, stuck}
use Rattle.cedar_reading.specs.declared.lexeme.Lexeme.{Lexeme}
use Rattle.cedar_reading.specs.declared.reading.Refusal.{Refusal}
use Rattle.cedar_reading.specs.declared.reading.Refusal.TheVariants.{Grammar, TooDeep, OutOfMemory}
use Rattle.cedar_grammar.specs.declared.tree.Policies.{Policies}
use Rattle.cedar_grammar.specs.Erased.{erase}
use Rattle.cedar_reading.specs.Lexemes.{lexeme_nodes}
use Rattle.cedar_reading.specs.Reading.{AreRight}

-- the reader reads all tokens, and the policies stand for its tree; or the refusal is the reader's, or at the first token that it leaves
abbrev pub GivesSet : Result Policies Refusal → Answer Lexeme → Type 0
GivesSet (Ok p) a = (f : Forest Label Lexeme) × (a ≡ done f []) × (AreRight f → erase p ≡ lexeme_nodes f)
GivesSet (Err (Grammar left)) a = (r : List Lexeme) × ((a ≡ stuck false r) ⊎ ((f : Forest Label Lexeme) × (t : Lexeme) × (s : List Lexeme) × (a ≡ done f r) × (r ≡ t ∷ s))) × (left ≡ length r)
GivesSet (Err (TooDeep left)) a = (r : List Lexeme) × (a ≡ stuck true r) × (left ≡ length r)
GivesSet (Err OutOfMemory) a = Unit {0}
