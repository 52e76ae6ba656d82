-- Keys and values of settings.
use Rattle.std.specs.Prelude.{◌≡◌, ℕ, ◌≤◌, ◌<◌, List, Bool, true, false, codes, map}
use Rattle.std.specs.Char.{to_ascii_lowercase}
use Rattle.std.specs.Str.Parse.{IsNumeral, digits_value, without_leading_plus}
use Rattle.cedar_settings.specs.declared.lines.Key.{Key}
use Rattle.cedar_settings.specs.declared.lines.Key.TheVariants.{IndentSize, TabWidth, MaxLineLength}
use Rattle.cedar_settings.specs.declared.lines.Value.{Value}
use Rattle.cedar_settings.specs.declared.lines.Value.TheVariants.{Columns, Tab, Off, Unset, Wrong}

-- whether two keys are the same
abbrev pub same_key : Key → Key → Bool
same_key IndentSize IndentSize = true
same_key TabWidth TabWidth = true
same_key MaxLineLength MaxLineLength = true
same_key _ _ = false

-- the least number that a key takes; the largest one is 65535
abbrev pub least_number : Key → ℕ
least_number IndentSize = 0
least_number TabWidth = 0
least_number MaxLineLength = 1

-- the text is this word, in small letters or capitals
abbrev pub IsWord : List ℕ → List ℕ → Type 0
IsWord text word = map to_ascii_lowercase text ≡ map to_ascii_lowercase word

-- it is a word that the key takes in place of a number, besides `unset`
abbrev pub IsOwnWord : Key → List ℕ → Type 0
IsOwnWord IndentSize text = IsWord text (codes "tab")
IsOwnWord TabWidth text = ⊥
IsOwnWord MaxLineLength text = IsWord text (codes "off")

-- it is this number, in digits
abbrev pub IsNumber : List ℕ → ℕ → Type 0
IsNumber text n = let digits = without_leading_plus text in IsNumeral 10 digits × (digits_value 10 digits ≡ n)

-- the key takes this number
abbrev pub TakesNumber : Key → ℕ → Type 0
TakesNumber key n = (least_number key ≤ n) × (n < 65536)

-- what the text of a value says about a key: a number that it takes, one of its words, or nothing that can be used
abbrev pub Says : Key → List ℕ → Value → Type 0
Says key text (Columns n) = IsNumber text n × TakesNumber key n
Says IndentSize text Tab = IsOwnWord IndentSize text
Says MaxLineLength text Off = IsOwnWord MaxLineLength text
Says key text Tab = ⊥
Says key text Off = ⊥
Says key text Unset = IsWord text (codes "unset")
Says key text (Wrong f) = ¬ (IsWord text (codes "unset")) × ¬ (IsOwnWord key text) × ((n : ℕ) → IsNumber text n → ¬ (TakesNumber key n))

-- whether a value can be used
abbrev pub is_usable : Value → Bool
is_usable (Wrong f) = false
is_usable _ = true
