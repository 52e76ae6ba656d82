use Rattle.std.proofs.Common.{◌≡◌}
use Rattle.cedar_writer.specs.Rules.{star}
use Rattle.cedar_writer.specs.Writing.{size}
use Rattle.cedar_writer.specs.Parts.{next_field}
use Rattle.cedar_writer.specs.Depths.{alone}
use Rattle.cedar_writer.proofs.writer.Writer.next_fields.Given as goal

abbrev pub invariant-fields : goal.invariant-fields
invariant-fields l = alone (star next_field) l.fn.self ≡ alone (star next_field) l.self

abbrev pub decreases-fields : goal.decreases-fields
decreases-fields l = size l.self
