use Rattle.cedar_edits.proofs.Found.{position-found}
use Rattle.cedar_edits.proofs.laws.positions_are_found.Goals as goal

pub returns : goal.returns
returns c = position-found
