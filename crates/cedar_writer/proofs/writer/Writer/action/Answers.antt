use Rattle.std.proofs.Common.{ap, ◌∙◌, []}
use Rattle.cedar_tokens.specs.declared.kind.Kind.TheVariants as K
use Rattle.cedar_tokens.specs.Kinds.{is}
use Rattle.cedar_print.specs.WrittenMarks as M
use Rattle.cedar_writer.specs.Writing as W
use Rattle.cedar_writer.specs.Depths.{alone}
use Rattle.cedar_writer.specs.Parts.{action, action_end}
use Rattle.cedar_writer.proofs.writer.Writer.action.Goals as goal

pub returns : goal.returns
unfolding action
returns c = c.action_end.ensures ∙ ap (alone (action_end c.args.indent.columns)) (c.take.ensures ∙ ap (W.take (is K.Action) [] []) (c.put-2.ensures ∙ ap (W.add M.begin) (c.put.ensures ∙ ap (W.add M.begin) c.lift.ensures)))
