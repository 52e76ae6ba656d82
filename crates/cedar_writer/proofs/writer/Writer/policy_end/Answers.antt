use Rattle.std.proofs.Common.{ap, ◌∙◌}
use Rattle.cedar_writer.specs.Depths.{around}
use Rattle.cedar_writer.specs.Parts.{policy_end, scope_end}
use Rattle.cedar_writer.proofs.writer.Writer.policy_end.Goals as goal

pub returns : goal.returns
unfolding policy_end
returns c = c.scope_end.ensures ∙ ap (around c.args.indent.columns c.args.depth (scope_end c.args.indent.columns)) c.last_comma.ensures
