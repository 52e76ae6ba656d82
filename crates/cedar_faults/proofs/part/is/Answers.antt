use Rattle.std.proofs.Common.{◌∙◌}
use Rattle.cedar_reading.proofs.Steps.{kind_test}
use Rattle.cedar_faults.proofs.part.is.Goals as goal

pub returns : goal.returns
returns c = c.eq.ensures ∙ kind_test _ _
