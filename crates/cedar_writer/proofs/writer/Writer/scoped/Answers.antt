use Rattle.std.proofs.Common.{ap, ◌∙◌, []}
use Rattle.cedar_tokens.specs.Kinds.{is}
use Rattle.cedar_print.specs.WrittenMarks as M
use Rattle.cedar_writer.specs.Writing as W
use Rattle.cedar_writer.specs.Depths.{alone}
use Rattle.cedar_writer.specs.Parts.{scoped, scoped_end}
use Rattle.cedar_writer.proofs.writer.Writer.scoped.Goals as goal

pub returns : goal.returns
unfolding scoped
returns c = c.scoped_end.ensures ∙ ap (alone (scoped_end c.args.indent.columns c.args.slot)) (c.take.ensures ∙ ap (W.take (is c.args.variable) [] []) (c.put-2.ensures ∙ ap (W.add M.begin) (c.put.ensures ∙ ap (W.add M.begin) c.lift.ensures)))
