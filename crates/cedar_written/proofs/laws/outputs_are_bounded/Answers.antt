use Rattle.cedar_written.proofs.LongestOutputs.{outputs_are_bounded}
use Rattle.cedar_written.proofs.laws.outputs_are_bounded.Goals as goal

pub returns : goal.returns
returns c = outputs_are_bounded
