use Rattle.std.proofs.Common.{sym, ap, ◌∙◌}
use Rattle.cedar_writer.specs.Rules.{◌▸◌}
use Rattle.cedar_writer.specs.Lines.{bare}
use Rattle.cedar_writer.specs.Writing as W
use Rattle.cedar_writer.specs.Depths.{around}
use Rattle.cedar_writer.specs.Parts.{bare_scope, broken_scope, policy_end}
use Rattle.cedar_writer.proofs.Lines.{taken, left}
use Rattle.cedar_writer.proofs.Flat.{bare_around, broken_around}
use Rattle.cedar_writer.proofs.writer.Writer.body.Goals as goal

pub returns-then-looking : goal.returns-then-looking
returns-then-looking c = taken (W.looking bare c.args.self.now) (around c.args.indent.columns c.args.depth (bare_scope c.args.indent.columns ▸ policy_end c.args.indent.columns) c.args.self.now)
    (around c.args.indent.columns c.args.depth (broken_scope c.args.indent.columns ▸ policy_end c.args.indent.columns) c.args.self.now) _ (sym c.looking.ensures ∙ c.if-looking.true)
    (c.policy_end.ensures ∙ ap (around c.args.indent.columns c.args.depth (policy_end c.args.indent.columns)) (c.bare_scope.ensures ∙ bare_around c.args.indent.columns c.args.depth c.args.self.now))

pub returns-else-looking : goal.returns-else-looking
returns-else-looking c = left (W.looking bare c.args.self.now) (around c.args.indent.columns c.args.depth (bare_scope c.args.indent.columns ▸ policy_end c.args.indent.columns) c.args.self.now)
    (around c.args.indent.columns c.args.depth (broken_scope c.args.indent.columns ▸ policy_end c.args.indent.columns) c.args.self.now) _ (sym c.looking.ensures ∙ c.if-looking.false)
    (c.policy_end-else-looking.ensures ∙ ap (around c.args.indent.columns c.args.depth (policy_end c.args.indent.columns)) (c.broken_scope.ensures ∙ broken_around c.args.indent.columns c.args.depth c.args.self.now))
