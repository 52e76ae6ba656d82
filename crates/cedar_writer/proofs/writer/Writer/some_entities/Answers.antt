use Rattle.std.proofs.Common.{sym, ap, ◌∙◌}
use Rattle.cedar_tokens.specs.declared.kind.Kind.TheVariants as K
use Rattle.cedar_writer.specs.Rules.{line, ◌▸◌}
use Rattle.cedar_writer.specs.Lines.{items}
use Rattle.cedar_writer.specs.Writing.{begins}
use Rattle.cedar_tokens.specs.Kinds.{is_ident}
use Rattle.cedar_writer.specs.Depths.{alone, often}
use Rattle.cedar_writer.specs.Parts.{entity_operand, last_comma, some_entities}
use Rattle.cedar_writer.proofs.Lines.{taken}
use Rattle.cedar_writer.proofs.writer.Writer.some_entities.Goals as goal

pub returns-then-begins : goal.returns-then-begins
unfolding some_entities
returns-then-begins c = taken (begins is_ident c.args.self.now) (alone (items (entity_operand c.args.indent.columns)) c.args.self.now) c.args.self.now _ (sym c.begins.ensures ∙ c.if-begins.true)
    (c.last_comma.ensures ∙ ap (alone last_comma) (c.next_entities.ensures ∙ ap (often K.Comma (line ▸ entity_operand c.args.indent.columns)) c.entity_operand.ensures))
