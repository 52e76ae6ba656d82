use Rattle.cedar_written.proofs.Layouts.{layouts_agree}
use Rattle.cedar_written.proofs.laws.layout_is_a_function.Goals as goal

pub returns : goal.returns
returns c = layouts_agree
