-- Long texts in parts.
use Rattle.std.specs.Prelude.{ℕ, List}
use Rattle.std.specs.List.{repeat}
use Rattle.cedar_test_rows.specs.declared.Part.{Part}
use Rattle.cedar_test_rows.specs.declared.Part.TheVariants.{Once, Times}

-- the text of a part: once, or so many times
abbrev pub part_text : Part → List ℕ
part_text (Once text) = text.now
part_text (Times n text) = repeat n text.now
