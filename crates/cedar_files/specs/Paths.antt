-- Paths as texts.
use Rattle.std.specs.Prelude.{◌≡◌, ◌==◌, ◌||◌, ◌++◌, ◌∷◌, [], ◌-◌, ℕ, List, Bool, codes, if◌then◌else◌, flat_map, length, nat_eq, take}
use Rattle.std.specs.List.{fold, slice_split, starts_with, suffix_len}
use Rattle.std.specs.Str.{bytes_eq}

-- a slash
abbrev pub is_slash : ℕ → Bool
is_slash b = b == 47

-- where a part of a path leads to from a folder, which is given by its own parts: no name and `.` stay there, `..` leads to the
-- folder above, and any other name to what it names
abbrev pub next : List (List ℕ) → List ℕ → List (List ℕ)
next folder part =
    if bytes_eq part [] || bytes_eq part (codes ".") then folder
    else if bytes_eq part (codes "..") then take (length folder - 1) folder
    else folder ++ (part ∷ [])

-- where a path leads to from a folder
abbrev pub led : List (List ℕ) → List ℕ → List (List ℕ)
led folder path = fold next folder (slice_split is_slash path)

-- a path from the root
abbrev pub absolute : List (List ℕ) → List ℕ
absolute parts = flat_map (λ part. 47 ∷ part) parts

-- the absolute path of a file, by its name: an absolute one, or one from a folder
abbrev pub path_of : List ℕ → List ℕ → List ℕ
path_of folder name = absolute (led (if starts_with nat_eq name (codes "/") then [] else led [] folder) name)

-- the path goes on below a folder, by a slash
abbrev pub IsBelow : List ℕ → List ℕ → Type 0
IsBelow path folder = (rest : List ℕ) × (path ≡ folder ++ (47 ∷ rest))

-- a path without the slashes at its end
abbrev pub without_last_slashes : List ℕ → List ℕ
without_last_slashes path = take (length path - suffix_len is_slash path) path

-- the path isn't below a folder, whose own path may end in slashes
abbrev pub LeadsOut : List ℕ → List ℕ → Type 0
LeadsOut path folder = ¬ (IsBelow path (without_last_slashes folder))
