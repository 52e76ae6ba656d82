use Rattle.std.proofs.Common.{ap, ◌∙◌}
use Rattle.cedar_writer.specs.Depths.{alone}
use Rattle.cedar_writer.specs.Parts.{end_compared, entity_operand}
use Rattle.cedar_writer.proofs.writer.Writer.equal_entity.Goals as goal

pub returns : goal.returns
returns c = c.end_compared.ensures ∙ ap (alone end_compared) (c.entity_operand.ensures ∙ ap (alone (entity_operand c.args.indent.columns)) c.begin_compared.ensures)
