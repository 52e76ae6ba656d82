-- What a folder holds.
use Rattle.std.specs.Prelude.{◌≡◌, ◌⊎◌, ◌++◌, ◌∷◌, ℕ, List, Bool, IsTrue, codes}

-- the name begins with a dot
abbrev pub IsHidden : List ℕ → Type 0
IsHidden name = (rest : List ℕ) × (name ≡ 46 ∷ rest)

-- a file or a link whose name ends in `.cedar`
abbrev pub IsTaken : List ℕ → Bool → Bool → Type 0
IsTaken name is_file is_link = ((front : List ℕ) × (name ≡ front ++ codes ".cedar")) × (IsTrue is_file ⊎ IsTrue is_link)
