use Rattle.std.proofs.Common.{sym, ap, ◌∙◌}
use Rattle.cedar_writer.specs.Sets.{contains}
use Rattle.cedar_writer.proofs.Views.{first_left}
use Rattle.cedar_writer.proofs.writer.Writer.begins.Goals as goal

pub returns-in-Some : goal.returns-in-Some
returns-in-Some c = first_left (contains c.args.set) c.self.inside.led c.self.inside.stop _ _ (sym c.is_some.ensures ∙ c.if-is_some.false)
    c.in-Some.ensures.cases.0 c.self.view_is (c.contains.ensures ∙ ap (contains c.args.set) c.kind.ensures)
