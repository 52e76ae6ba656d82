use Rattle.std.proofs.Common.{sym, ap, ◌∙◌}
use Rattle.cedar_writer.specs.Sets.{contains}
use Rattle.cedar_writer.proofs.Views.{second_left}
use Rattle.cedar_writer.proofs.writer.Writer.second.Goals as goal

pub returns-in-Some-split_first : goal.returns-in-Some-split_first
returns-in-Some-split_first c = second_left (contains c.args.set) c.self.inside.led c.self.inside.stop _ _ (sym c.is_some.ensures ∙ c.if-is_some.false)
    c.in-Some.ensures.cases.0 c.in-Some-split_first.ensures.cases.0 c.self.view_is (c.contains.ensures ∙ ap (contains c.args.set) c.kind.ensures)
