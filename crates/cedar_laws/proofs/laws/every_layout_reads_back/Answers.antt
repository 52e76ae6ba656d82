use Rattle.cedar_laws.proofs.Assembled.{reads_back}
use Rattle.cedar_laws.proofs.CanonicalForm.{texts_read_back}
use Rattle.cedar_laws.proofs.laws.every_layout_reads_back.Goals as goal

pub returns-clause-trees : goal.returns-clause-trees
returns-clause-trees c = reads_back

pub returns-clause-texts : goal.returns-clause-texts
returns-clause-texts c = texts_read_back
