use Rattle.cedar_laws.proofs.Joined.{joined}
use Rattle.cedar_laws.proofs.text_laws.lists_join.Goals as goal

pub returns : goal.returns
returns c = joined
