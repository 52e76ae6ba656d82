use Rattle.std.proofs.Common.{ap, ◌∙◌, []}
use Rattle.cedar_tokens.specs.declared.kind.Kind.TheVariants as K
use Rattle.cedar_tokens.specs.Kinds.{is}
use Rattle.cedar_writer.specs.Rules.{star}
use Rattle.cedar_writer.specs.Writing as W
use Rattle.cedar_writer.specs.Depths.{around}
use Rattle.cedar_writer.specs.Parts.{next_cond}
use Rattle.cedar_writer.proofs.writer.Writer.conds.Goals as goal

pub returns : goal.returns
returns c = c.take.ensures ∙ ap (W.take (is K.SemiColon) [] []) (c.next_conds.ensures ∙ ap (around c.args.indent.columns c.args.depth (star (next_cond c.args.indent.columns))) c.cond.ensures)
