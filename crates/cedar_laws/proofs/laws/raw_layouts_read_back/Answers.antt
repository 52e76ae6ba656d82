use Rattle.cedar_laws.proofs.Assembled.{raw_reads_back}
use Rattle.cedar_laws.proofs.laws.raw_layouts_read_back.Goals as goal

pub returns : goal.returns
returns c = raw_reads_back
