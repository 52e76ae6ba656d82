-- The search for strings and comments, and for lines. No public contract uses it.
use Rattle.std.specs.Prelude.{◌≡◌, ◌⊎◌, ℕ, List, [], ◌∷◌}
use Rattle.cedar_tokens.specs.Units.{IsComment}
use Rattle.cedar_layout.specs.Cleaning.{IsString, IsKept, piece_lines}
use Rattle.cedar_layout.specs.declared.utils.cleaning.Sought.{Sought}
use Rattle.cedar_layout.specs.declared.utils.cleaning.Sought.TheVariants.{Comment, String, Either}

-- what is looked for
abbrev pub IsSought : Sought → List ℕ → Type 0
IsSought Comment = IsComment
IsSought String = IsString
IsSought Either = IsKept

-- l is the first line of a piece, and r what follows it
abbrev pub IsFirstLine : List ℕ → List ℕ → List ℕ → Type 0
IsFirstLine piece l r = (piece_lines piece ≡ l ∷ piece_lines r) ⊎ ((piece_lines piece ≡ l ∷ []) × (r ≡ []))
