use Rattle.std.proofs.Common.{ap, ◌∙◌}
use Rattle.cedar_writer.specs.Depths.{around}
use Rattle.cedar_writer.specs.Lines.{cond}
use Rattle.cedar_writer.proofs.writer.Writer.next_cond.Goals as goal

pub returns : goal.returns
returns c = c.cond.ensures ∙ ap (around c.args.indent.columns c.args.depth (cond c.args.indent.columns)) c.put.ensures
