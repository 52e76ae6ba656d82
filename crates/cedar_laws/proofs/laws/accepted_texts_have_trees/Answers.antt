use Rattle.cedar_laws.proofs.Grammatical.{accepted_has_tree, one_tree, tree_fits}
use Rattle.cedar_laws.proofs.laws.accepted_texts_have_trees.Goals as goal

pub returns-clause-some : goal.returns-clause-some
returns-clause-some c = accepted_has_tree

pub returns-clause-one : goal.returns-clause-one
returns-clause-one c = one_tree

pub returns-clause-fits : goal.returns-clause-fits
returns-clause-fits c = tree_fits
