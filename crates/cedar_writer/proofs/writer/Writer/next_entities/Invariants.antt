use Rattle.std.proofs.Common.{◌≡◌}
use Rattle.cedar_tokens.specs.declared.kind.Kind.TheVariants as K
use Rattle.cedar_writer.specs.Writing.{size}
use Rattle.cedar_writer.specs.Rules.{line, ◌▸◌}
use Rattle.cedar_writer.specs.Parts.{entity_operand}
use Rattle.cedar_writer.specs.Depths.{often}
use Rattle.cedar_writer.proofs.writer.Writer.next_entities.Given as goal

abbrev pub invariant-entities : goal.invariant-entities
invariant-entities l = often K.Comma (line ▸ entity_operand l.indent.columns) l.fn.self ≡ often K.Comma (line ▸ entity_operand l.indent.columns) l.self

abbrev pub decreases-entities : goal.decreases-entities
decreases-entities l = size l.self
