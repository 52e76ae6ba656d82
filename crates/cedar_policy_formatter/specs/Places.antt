-- The line and the column of a byte.
use Rattle.std.specs.Prelude.{ℕ, List, Bool, ◌+◌, ◌==◌, length, take, count_by}
use Rattle.std.specs.List.{after_last}
use Rattle.std.specs.Str.{chars}
use Rattle.std.specs.Fmt.Cut.{floor_char_boundary}

-- the text before a byte, in whole characters: all of it for a byte past the end
abbrev pub text_before : List ℕ → ℕ → List ℕ
text_before text at = take (floor_char_boundary text at) text

-- the byte ends a line
abbrev pub is_line_feed : ℕ → Bool
is_line_feed b = b == 10

-- one more than the line feeds before the byte
abbrev pub line_at : List ℕ → ℕ → ℕ
line_at text at = 1 + count_by is_line_feed (text_before text at)

-- one more than the characters before the byte on its line
abbrev pub column_at : List ℕ → ℕ → ℕ
column_at text at = 1 + length (chars (after_last is_line_feed (text_before text at)))
