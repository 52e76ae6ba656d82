use Rattle.std.proofs.Common.{ap, ◌∙◌}
use Rattle.cedar_writer.specs.Depths.{alone}
use Rattle.cedar_writer.specs.Parts.{slot_operand, slot_or_entity}
use Rattle.cedar_writer.specs.Parts.{end_operand}
use Rattle.cedar_writer.proofs.writer.Writer.slot_operand.Goals as goal

pub returns : goal.returns
unfolding slot_operand
returns c = c.end_operand.ensures ∙ ap (alone (end_operand c.args.indent.columns)) (c.slot_or_entity.ensures ∙ ap (alone (slot_or_entity c.args.slot)) c.begin_operand.ensures)
