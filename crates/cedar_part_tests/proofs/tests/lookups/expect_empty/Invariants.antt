use Rattle.cedar_layout.specs.Lookups.{AreInOrder}
use Rattle.cedar_part_tests.proofs.tests.lookups.expect_empty.Given as goal

abbrev pub invariant-loop-at : goal.invariant-loop-at
invariant-loop-at g l = AreInOrder l.tokens
