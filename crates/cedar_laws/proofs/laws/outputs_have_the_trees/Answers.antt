use Rattle.cedar_laws.proofs.CanonicalForm.{output_trees}
use Rattle.cedar_laws.proofs.laws.outputs_have_the_trees.Goals as goal

pub returns : goal.returns
returns c = output_trees
