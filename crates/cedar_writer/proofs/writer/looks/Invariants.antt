use Rattle.std.proofs.Common.{◌≡◌, map, length}
use Rattle.cedar_writer.specs.Languages.{looks}
use Rattle.cedar_writer.specs.Sets.{contains}
use Rattle.cedar_writer.proofs.writer.looks.Given as goal

abbrev pub invariant-sets : goal.invariant-sets
invariant-sets l = looks (map contains l.fn.sets) l.fn.tokens ≡ looks (map contains l.wanted) l.left

abbrev pub decreases-sets : goal.decreases-sets
decreases-sets l = length l.wanted
