use Rattle.std.proofs.Common.{map, sym, ◌∙◌}
use Rattle.cedar_writer.specs.Sets.{contains}
use Rattle.cedar_writer.proofs.Views.{looking_left}
use Rattle.cedar_writer.proofs.writer.Writer.looking.Goals as goal

pub returns : goal.returns
returns c = looking_left (map contains c.args.sets.now) c.self.inside.led c.self.inside.stop c.self.inside.left.now _ _
    (sym c.is_some.ensures ∙ c.if-is_some.false) c.self.view_is c.looks.ensures
