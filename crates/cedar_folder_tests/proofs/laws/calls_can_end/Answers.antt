use Rattle.cedar_folder_tests.proofs.Ends.{calls_end}
use Rattle.cedar_folder_tests.proofs.laws.calls_can_end.Goals as goal

pub returns : goal.returns
returns c = calls_end
