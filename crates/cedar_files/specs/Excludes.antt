-- Which paths are left alone.
use Rattle.std.specs.Prelude.{◌≡◌, ◌↔◌, ◌<◌, ◌⊎◌, ◌++◌, ◌∷◌, ℕ, List, Bool, true, false, IsTrue, codes, filter, length, map, nat_eq, not, slice_index_or, take}
use Rattle.std.specs.List.{Any, starts_with}
use Rattle.cedar_settings.specs.Settings.{matches}
use Rattle.cedar_settings.specs.declared.globs.Glob.{Glob}
use Rattle.cedar_files.specs.declared.excludes.Excludes.{Excludes}
use Rattle.cedar_files.specs.declared.excludes.Rule.{Rule}

-- the path is below a folder, and the glob matches the rest of it, from the slash on
abbrev pub IsMeantFrom : Glob → List ℕ → List ℕ → Type 0
IsMeantFrom glob path folder = (rest : List ℕ) × (path ≡ folder ++ (47 ∷ rest)) × IsTrue (matches glob (47 ∷ rest))

-- an absolute glob matches the path; any other one matches it from one of two folders on
abbrev pub IsMeant : Glob → Bool → List ℕ → List ℕ → List ℕ → Type 0
IsMeant glob true path below folder = IsTrue (matches glob path)
IsMeant glob false path below folder = IsMeantFrom glob path below ⊎ IsMeantFrom glob path folder

-- the working folder
abbrev pub working_folder : Excludes → List ℕ
working_folder e = e.folder.now

-- what a rule asks for: its glob, and whether that is absolute
abbrev pub asked : Rule → Glob × Bool
asked rule = (rule.glob, rule.is_absolute)

-- all that is asked for
abbrev pub globs : Excludes → List (Glob × Bool)
globs e = map asked e.rules.items

-- a glob is for the path
abbrev pub IsFor : List ℕ → List ℕ → List ℕ → Glob × Bool → Type 0
IsFor path below folder (glob, is_absolute) = IsMeant glob is_absolute path below folder

-- one of the globs is for the path, as it is seen from a folder or from the working folder
abbrev pub LeavesAlone : Excludes → List ℕ → List ℕ → Type 0
LeavesAlone e path below = Any (IsFor path below (working_folder e)) (globs e)

-- the same is asked for
pub record AsksTheSame (old new : Excludes) : Type 0 where
  pub globs : globs new ≡ globs old
  pub folder : working_folder new ≡ working_folder old

-- so many bytes of the path are the path of a folder, which is left alone as it is seen from the working folder
abbrev pub LeavesAbove : Excludes → List ℕ → ℕ → Type 0
LeavesAbove e path n = (rest : List ℕ) × (path ≡ take n path ++ (47 ∷ rest)) × LeavesAlone e (take n path) (working_folder e)

-- the path, or a folder that it is in, is left alone as it is seen from the working folder
abbrev pub LeavesNamed : Excludes → List ℕ → Type 0
LeavesNamed e path = ((n : ℕ) × LeavesAbove e path n) ⊎ LeavesAlone e path (working_folder e)

-- the word of a rule
abbrev pub word_of : Rule → List ℕ
word_of rule = rule.word.now

-- the words of the rules for which nothing was met, in order
abbrev pub words_unmet : List Rule → List (List ℕ)
words_unmet rules = map word_of (filter (λ rule. not rule.is_met) rules)

-- the words for which nothing was met, in order
abbrev pub unmet_words : Excludes → List (List ℕ)
unmet_words e = words_unmet e.rules.items

-- the word begins with a slash
abbrev pub begins_with_slash : List ℕ → Bool
begins_with_slash word = starts_with nat_eq word (codes "/")

-- whether each rule is absolute, in order
abbrev pub are_absolute : List Rule → List Bool
are_absolute rules = map (λ rule. rule.is_absolute) rules

-- whether each glob is absolute, in order
abbrev pub absolutes : Excludes → List Bool
absolutes e = are_absolute e.rules.items

-- something was met for a rule: there was before, or its glob is for this path
pub record IsMetAt (path below folder : List ℕ) (old new : Rule) : Type 0 where
  pub word : word_of new ≡ word_of old
  pub met : IsTrue new.is_met ↔ (IsTrue old.is_met ⊎ IsFor path below folder (asked old))

-- this path was met, as it is seen from a folder and from the working folder
pub record Meets (old : Excludes) (path below : List ℕ) (new : Excludes) : Type 0 where
  pub rules : length new.rules.items ≡ length old.rules.items
  pub each : (k : ℕ) (d : Rule) → k < length old.rules.items
      → IsMetAt path below (working_folder old) (slice_index_or old.rules.items k d) (slice_index_or new.rules.items k d)
