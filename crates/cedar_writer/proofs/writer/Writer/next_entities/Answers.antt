use Rattle.std.proofs.Common.{sym, ◌∙◌}
use Rattle.cedar_tokens.specs.declared.kind.Kind.TheVariants as K
use Rattle.cedar_writer.specs.Rules.{line, ◌▸◌}
use Rattle.cedar_writer.specs.Parts.{entity_operand}
use Rattle.cedar_writer.proofs.Loops.{often_less, often_turn, often_over}
use Rattle.cedar_writer.proofs.writer.Writer.next_entities.Goals as goal

pub entities-smaller : goal.entities-smaller
entities-smaller c = often_less K.Comma (line ▸ entity_operand c.args.indent.columns) c.entities.self c.next_entity.new.self (sym c.goes.ensures ∙ c.entities-test.true) c.next_entity.ensures

pub entities-preserved : goal.entities-preserved
entities-preserved c = often_turn K.Comma (line ▸ entity_operand c.args.indent.columns) c.entities.self c.next_entity.new.self (sym c.goes.ensures ∙ c.entities-test.true) c.entities.invariant c.next_entity.ensures

pub returns : goal.returns
returns c = often_over K.Comma (line ▸ entity_operand c.args.indent.columns) c.entities.self (sym c.goes.ensures ∙ c.entities-test.false) c.entities.invariant
