use Rattle.std.proofs.Common.{subst}
use Rattle.std.proofs.KnownBytes.{Keeps-refl}
use Rattle.cedar_streams.specs.Devices.{device_of, has_failed, is_flushed}
use Rattle.cedar_program.specs.Runs.{Checks, Formats, status_of}
use Rattle.cedar_program.proofs.run.run_on.Goals as goal

pub returns-then-options-clause-run : goal.returns-then-options-clause-run
returns-then-options-clause-run g c = rw c.if-options.true (
  subst (λ i. Checks c.args.options.now.config (g.I.Read.remaining i) (status_of c.check.result))
      c.new-input.ensures.device c.check.ensures.run,
  Keeps-refl (g.O.Write.contents (device_of c.args.output.now)),
)

pub returns-clause-run : goal.returns-clause-run
returns-clause-run g c =
    let held = g.O.Write.contents (device_of c.args.output.now) in
    let holds = g.O.Write.contents (device_of c.format.new.output) in
    rw c.if-options.false
    (subst (λ i. Formats c.args.options.now.config (g.I.Read.remaining i) held holds
    (has_failed c.format.new.output) (is_flushed c.format.new.output) (status_of c.format.result))
    c.new-input.ensures.device c.format.ensures.run)
