-- What stands between the texts of a list.
use Rattle.std.specs.Prelude.{ℕ, ◌==◌, if◌then◌else◌, List, [], codes}

-- what comes before the text with this index, given the index of the last one
abbrev pub separator : ℕ → ℕ → List ℕ
separator index last = if index == 0 then [] else (if index == last then codes " or " else codes ", ")
