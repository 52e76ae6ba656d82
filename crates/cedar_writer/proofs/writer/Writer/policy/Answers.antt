use Rattle.std.proofs.Common.{ap, ◌∙◌}
use Rattle.cedar_writer.specs.Depths.{alone, around}
use Rattle.cedar_writer.specs.Parts.{body, head}
use Rattle.cedar_writer.proofs.Lines.{policy_reads}
use Rattle.cedar_writer.proofs.writer.Writer.policy.Goals as goal

pub returns : goal.returns
returns c = c.body.ensures
    ∙ ap (around c.args.indent.columns c.args.depth (body c.args.indent.columns)) (c.head.ensures ∙ ap (alone head) c.annotations.ensures)
    ∙ policy_reads c.args.indent.columns c.args.depth c.args.self.now
