-- How a fault of a text is shown.
use Rattle.std.specs.Prelude.{◌≡◌, ◌++◌, ◌∷◌, ◌-◌, ◌<◌, ◌≤◌, ⊤, ℕ, List, Option, Some, None, chars, codes, drop, false, if◌then◌else◌, is_some, length, map, string_bytes, take}
use Rattle.std.specs.Char.{is_control}
use Rattle.std.specs.List.{after_last, before_first, repeat}
use Rattle.std.specs.Str.{IsCharBoundary, encode_utf8_all}
use Rattle.unicode_width.specs.Width.{str_width}
use Rattle.cedar_faults.specs.Brackets.{told_open}
use Rattle.cedar_faults.specs.declared.brackets.Bracket.{Bracket}
use Rattle.cedar_faults.specs.declared.fault.Fault.{Fault}
use Rattle.cedar_policy_formatter.specs.Places.{is_line_feed}
use Rattle.cedar_files.specs.Places.{IsPlaceAfter}
use Rattle.cedar_files.specs.declared.fault.ShownBracket.{ShownBracket}
use Rattle.cedar_files.specs.declared.places.Place.{Place}

-- the byte where a fault is shown: where its part starts, or, if the text ends there, where its part ends
abbrev pub byte_of : Fault → ℕ
byte_of fault = if is_some fault.expected.found then fault.part.start else fault.part.end

-- the two parts of a text that is cut at a byte, or, if that is inside a character or past the end, at the last place before it
-- that isn't
pub record IsCutAt (text : List ℕ) (byte : ℕ) (before after : List ℕ) : Type 0 where
  pub parts : text ≡ before ++ after
  pub within : length before ≤ byte
  pub boundary : IsCharBoundary text (length before)
  pub last : (n : ℕ) → length before < n → n ≤ byte → ¬ (IsCharBoundary text n)

-- the place where the text is cut at a byte
abbrev pub IsPlaceAt : List ℕ → ℕ → Place → Type 0
IsPlaceAt text byte place = (before after : List ℕ) × IsCutAt text byte before after × IsPlaceAfter before place

-- a character as it is shown: a space for a control character
abbrev pub on_one_line : ℕ → ℕ
on_one_line c = if is_control c then 32 else c

-- the last sixty characters of a text, as they are shown
abbrev pub end_shown : List ℕ → List ℕ
end_shown text = encode_utf8_all (map on_one_line (drop (length (chars text) - 60) (chars text)))

-- the first sixty characters of a text, as they are shown
abbrev pub start_shown : List ℕ → List ℕ
start_shown text = encode_utf8_all (map on_one_line (take 60 (chars text)))

-- the columns that a text takes
abbrev pub columns : List ℕ → ℕ
columns text = str_width false (chars text)

-- a line in two parts, as far as they are shown, and below it `^` under the start of the second part
abbrev pub marked : List ℕ → List ℕ → List ℕ
marked left right = end_shown left ++ (start_shown right
    ++ (10 ∷ (repeat (columns (end_shown left)) (codes " ") ++ codes "^")))

-- the line of the place where the text is cut at a byte, marked there
abbrev pub IsMarkedLine : List ℕ → ℕ → List ℕ → Type 0
IsMarkedLine text byte shown = (before after : List ℕ) × IsCutAt text byte before after
    × (shown ≡ marked (after_last is_line_feed before) (before_first is_line_feed after))

-- a bracket is shown where its part starts, and what is said of it is that it isn't closed; none if there is none
abbrev pub IsShownBracket : List ℕ → Option Bracket → Option ShownBracket → Type 0
IsShownBracket text (Some bracket) (Some shown) = IsPlaceAt text bracket.part.start shown.place
    × (string_bytes shown.message ≡ told_open bracket)
    × IsMarkedLine text bracket.part.start (string_bytes shown.marked_line)
IsShownBracket text None None = ⊤
IsShownBracket text unclosed shown = ⊥
