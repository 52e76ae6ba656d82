use Rattle.std.proofs.Common.{ap, ◌∙◌}
use Rattle.cedar_writer.specs.Depths.{alone}
use Rattle.cedar_writer.specs.Parts.{end_compared, slot_operand}
use Rattle.cedar_writer.proofs.writer.Writer.compared_slot.Goals as goal

pub returns : goal.returns
returns c = c.end_compared.ensures ∙ ap (alone end_compared) (c.slot_operand.ensures ∙ ap (alone (slot_operand c.args.indent.columns c.args.slot)) c.begin_compared.ensures)
