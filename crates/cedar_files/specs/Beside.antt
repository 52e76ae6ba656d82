-- Names of new files, before they take the place of others.
use Rattle.std.specs.Prelude.{◌≡◌, ◌++◌, ◌∷◌, ◌^◌, ◌<◌, ℕ, List, IsTrue, codes}
use Rattle.std.specs.Char.{is_ascii_hexdigit}
use Rattle.std.specs.List.{list_all}
use Rattle.std.specs.Str.Parse.{IsNumeral, digits_value, without_leading_plus}

-- a text is read as a number of 32 bits; a plus may precede its digits
abbrev pub IsReadAs : List ℕ → ℕ → Type 0
IsReadAs text number = IsNumeral 10 (without_leading_plus text) × (digits_value 10 (without_leading_plus text) ≡ number) × (number < 2 ^ 32)

-- a name that the process with this number gives to a new file: the prefix, the number, a dot, and digits of base 16
abbrev pub IsNewName : List ℕ → ℕ → Type 0
IsNewName name number = (text bits : List ℕ) × (name ≡ codes ".cedar-files." ++ (text ++ (46 ∷ bits)))
    × IsReadAs text number × IsTrue (list_all is_ascii_hexdigit bits)
