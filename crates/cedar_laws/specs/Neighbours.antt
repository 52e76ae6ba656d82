-- Which characters of two tokens may be next to each other.
use Rattle.std.specs.Prelude.{ℕ, List, [], ◌∷◌, Bool, ◌&&◌, ◌||◌, ◌==◌}
use Rattle.cedar_tokens.specs.Units.{is_word_byte}
use Rattle.cedar_tokens.specs.Bytes.{colon, equals, exclamation_mark, greater_than, less_than, question_mark, slash}

-- c followed by d could be parts of one unit: they must not be next to each other in two tokens
abbrev pub glues : ℕ → ℕ → Bool
glues c d = (((is_word_byte d && (is_word_byte c || c == question_mark)) || (d == colon && c == colon)) || (d == slash && c == slash)) || (d == equals && ((c == less_than || c == greater_than) || (c == exclamation_mark || c == equals)))

abbrev pub first_or : ℕ → List ℕ → ℕ
first_or c [] = c
first_or c (d ∷ ds) = d
