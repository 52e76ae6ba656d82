use Rattle.std.proofs.KnownBytes.{Keeps-refl}
use Rattle.cedar_program.proofs.run.run_options.Goals as goal

pub returns-in-Ok-clause-run : goal.returns-in-Ok-clause-run
returns-in-Ok-clause-run g c = c.in-Ok.ensures.run

pub returns-in-Err-clause-run : goal.returns-in-Err-clause-run
returns-in-Err-clause-run g c = rw c.fail.ensures c.in-Err.ensures.run

pub returns-in-Ok-clause-quiet : goal.returns-in-Ok-clause-quiet
returns-in-Ok-clause-quiet g c = λ _. Keeps-refl (g.E.Write.contents c.args.errors.now)

pub returns-in-Err-clause-quiet : goal.returns-in-Err-clause-quiet
returns-in-Err-clause-quiet g c = λ other. absurd (other c.fail.ensures)
