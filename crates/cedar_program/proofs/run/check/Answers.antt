use Rattle.cedar_streams.specs.Devices.{device_of}
use Rattle.cedar_program.proofs.Runs.{is_formatted, is_unformatted}
use Rattle.cedar_program.proofs.run.check.Goals as goal

pub returns-then-branch-clause-run : goal.returns-then-branch-clause-run
returns-then-branch-clause-run g c =
    is_formatted c.args.config.now (g.I.Read.remaining (device_of c.args.input.now))
    (g.I.Read.remaining (device_of c.check_stream.new.input)) c.in_ok-check_stream.field-0
    c.if-branch.true c.in_ok-check_stream.ensures.check

pub returns-else-branch-clause-run : goal.returns-else-branch-clause-run
returns-else-branch-clause-run g c =
    is_unformatted c.args.config.now (g.I.Read.remaining (device_of c.args.input.now))
    (g.I.Read.remaining (device_of c.check_stream.new.input)) c.in_ok-check_stream.field-0
    c.if-branch.false c.in_ok-check_stream.ensures.check
