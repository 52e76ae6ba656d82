use Rattle.cedar_server.proofs.Growing.{selections_grow}
use Rattle.cedar_server.proofs.laws.selections_grow.Goals as goal

pub returns : goal.returns
returns c = selections_grow
