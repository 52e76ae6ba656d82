use Rattle.std.proofs.Common.{refl}
use Rattle.cedar_writer.proofs.Views.{written_state, ended_state}
use Rattle.cedar_writer.proofs.writer.Writer.finish.Goals as goal

pub returns-in-None : goal.returns-in-None
returns-in-None c = written_state c.self.inside.led c.self.inside.stop c.self.inside.left.now _ _
    c.self.inside.free c.self.view_is c.in-None.is refl

pub returns-in-Some : goal.returns-in-Some
returns-in-Some c = rw c.outcome_of.ensures (ended_state c.self.inside.led c.self.inside.stop
    c.self.inside.left.now _ _ c.self.inside.free c.in-Some.stop c.self.view_is c.in-Some.is refl)
