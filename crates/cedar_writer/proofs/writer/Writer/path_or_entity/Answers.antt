use Rattle.std.proofs.Common.{ap, ◌∙◌}
use Rattle.cedar_tokens.specs.declared.kind.Kind.TheVariants as K
use Rattle.cedar_tokens.specs.Kinds.{is}
use Rattle.cedar_writer.specs.Rules.{nothing}
use Rattle.cedar_writer.specs.Writing as W
use Rattle.cedar_writer.specs.Depths.{alone, often}
use Rattle.cedar_writer.specs.Lines.{ident, str}
use Rattle.cedar_writer.proofs.writer.Writer.path_or_entity.Goals as goal

pub returns : goal.returns
returns c = c.path_end.ensures ∙ ap (W.finish (is K.DoubleColon) (alone str) (alone nothing)) (c.words.ensures ∙ ap (often K.DoubleColon ident) c.take.ensures)
