use Rattle.cedar_cst.proofs.Primaries.{lone_gives}
use Rattle.cedar_reading.proofs.Refusals.{refused}
use Rattle.cedar_cst.proofs.expressions.literal_item.Goals as goal

pub returns-in_err-primary-clause-reads : goal.returns-in_err-primary-clause-reads
returns-in_err-primary-clause-reads c =
    rw (refused c.from_residual.ensures.1) c.in_err-primary.ensures.reads

pub returns-clause-reads : goal.returns-clause-reads
returns-clause-reads c = lone_gives c.in_ok-primary.primary c.in_ok-primary.rest c.lone_item.result
    _ c.in_ok-primary.ensures.reads c.lone_item.ensures
