use Rattle.std.proofs.Common.{◌≡◌}
use Rattle.cedar_writer.specs.Rules.{star}
use Rattle.cedar_writer.specs.Writing.{size}
use Rattle.cedar_writer.specs.Lines.{annotation}
use Rattle.cedar_writer.specs.Depths.{alone}
use Rattle.cedar_writer.proofs.writer.Writer.annotations.Given as goal

abbrev pub invariant-annotations : goal.invariant-annotations
invariant-annotations l = alone (star annotation) l.fn.self ≡ alone (star annotation) l.self

abbrev pub decreases-annotations : goal.decreases-annotations
decreases-annotations l = size l.self
