use Rattle.std.proofs.Common.{ap, ◌∙◌}
use Rattle.cedar_writer.specs.Rules.{◌∥◌}
use Rattle.cedar_writer.specs.Depths.{alone}
use Rattle.cedar_writer.specs.Lines.{entity}
use Rattle.cedar_writer.specs.Parts.{entities, entities_operand}
use Rattle.cedar_writer.specs.Parts.{end_operand}
use Rattle.cedar_writer.proofs.writer.Writer.entities_operand.Goals as goal

pub returns : goal.returns
unfolding entities_operand
returns c = c.end_operand.ensures ∙ ap (alone (end_operand c.args.indent.columns)) (c.entity_or_entities.ensures ∙ ap (alone (entity ∥ entities c.args.indent.columns)) c.begin_operand.ensures)
