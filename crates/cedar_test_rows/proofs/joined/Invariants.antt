use Rattle.std.proofs.Common.{◌≡◌, string_bytes, take}
use Rattle.std.specs.List.{flat_map}
use Rattle.cedar_test_rows.specs.Parts.{part_text}
use Rattle.cedar_test_rows.proofs.joined.Given as goal

abbrev pub invariant-loop-part : goal.invariant-loop-part
invariant-loop-part l = string_bytes l.out ≡ flat_map part_text (take l.part-index l.fn.parts)
