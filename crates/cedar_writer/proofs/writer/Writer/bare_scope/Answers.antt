use Rattle.std.proofs.Common.{ap, ◌∙◌}
use Rattle.cedar_print.specs.WrittenMarks as M
use Rattle.cedar_writer.specs.Writing as W
use Rattle.cedar_writer.specs.Depths.{alone}
use Rattle.cedar_writer.specs.Parts.{bare_scope, variables}
use Rattle.cedar_writer.proofs.writer.Writer.bare_scope.Goals as goal

pub returns : goal.returns
unfolding bare_scope
returns c = c.put-4.ensures ∙ ap (W.add M.end_group) (c.put-3.ensures ∙ ap (W.add M.end_nest) (c.variables.ensures ∙ ap (alone (variables c.args.indent.columns M.space)) (c.put-2.ensures ∙ ap (W.add (M.nest c.args.indent.columns)) c.put.ensures)))
