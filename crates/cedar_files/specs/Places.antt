-- Places in a text.
use Rattle.std.specs.Prelude.{◌≡◌, ℕ, ◌+◌, List, not, count_by, take, nat_eq}
use Rattle.std.specs.List.{common_prefix_len, suffix_len}
use Rattle.cedar_policy_formatter.specs.Places.{is_line_feed}
use Rattle.cedar_files.specs.declared.places.Place.{Place}

-- the place after a text: one more than its line feeds, and one more than the bytes after the last one
pub record IsPlaceAfter (text : List ℕ) (place : Place) : Type 0 where
  pub line : place.line ≡ 1 + count_by is_line_feed text
  pub column : place.column ≡ 1 + suffix_len (λ b. not (is_line_feed b)) text

-- what two texts both begin with
abbrev pub shared : List ℕ → List ℕ → List ℕ
shared xs ys = take (common_prefix_len nat_eq xs ys) xs
