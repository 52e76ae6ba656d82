use Rattle.std.proofs.Common.{◌≡◌, map, take, string_bytes}
use Rattle.cedar_files.specs.Paths.{absolute}
use Rattle.cedar_files.proofs.paths.joined.Given as goal

abbrev pub invariant-loop-part : goal.invariant-loop-part
invariant-loop-part l = string_bytes l.path ≡ absolute (map (λ x. x.now) (take l.part-index l.parts))
