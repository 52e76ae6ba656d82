use Rattle.std.proofs.Common.{ap, ◌∙◌}
use Rattle.cedar_print.specs.WrittenMarks as M
use Rattle.cedar_writer.specs.Writing as W
use Rattle.cedar_writer.specs.Depths.{alone}
use Rattle.cedar_writer.specs.Parts.{entity_operand}
use Rattle.cedar_writer.proofs.writer.Writer.next_entity.Goals as goal

pub returns : goal.returns
returns c = c.entity_operand.ensures ∙ ap (alone (entity_operand c.args.indent.columns)) (c.put.ensures ∙ ap (W.add M.line) c.take.ensures)
