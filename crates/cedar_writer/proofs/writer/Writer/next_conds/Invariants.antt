use Rattle.std.proofs.Common.{◌≡◌}
use Rattle.cedar_writer.specs.Rules.{star}
use Rattle.cedar_writer.specs.Writing.{size}
use Rattle.cedar_writer.specs.Depths.{around}
use Rattle.cedar_writer.specs.Parts.{next_cond}
use Rattle.cedar_writer.proofs.writer.Writer.next_conds.Given as goal

abbrev pub invariant-conds : goal.invariant-conds
invariant-conds l = around l.indent.columns l.depth (star (next_cond l.indent.columns)) l.fn.self ≡ around l.indent.columns l.depth (star (next_cond l.indent.columns)) l.self

abbrev pub decreases-conds : goal.decreases-conds
decreases-conds l = size l.self
