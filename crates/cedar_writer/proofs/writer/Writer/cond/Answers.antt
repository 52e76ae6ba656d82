use Rattle.std.proofs.Common.{ap, ◌∙◌, [], ◌∷◌}
use Rattle.cedar_tokens.specs.Kinds.{is_cond_word}
use Rattle.cedar_print.specs.WrittenMarks as M
use Rattle.cedar_writer.specs.Writing as W
use Rattle.cedar_writer.specs.Depths.{around}
use Rattle.cedar_writer.specs.Lines.{block}
use Rattle.cedar_writer.proofs.writer.Writer.cond.Goals as goal

pub returns : goal.returns
returns c = c.put-2.ensures ∙ ap (W.add M.end_group) (c.block.ensures ∙ ap (around c.args.indent.columns c.args.depth (block c.args.indent.columns)) (c.take_then.ensures ∙ ap (W.take is_cond_word [] (M.line ∷ [])) (c.put.ensures ∙ ap (W.add M.begin) c.lift.ensures)))
