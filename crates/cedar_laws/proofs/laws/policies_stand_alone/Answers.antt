use Rattle.cedar_laws.proofs.OutputLaws.{policies_stand_alone, tokens_tell_policies}
use Rattle.cedar_laws.proofs.laws.policies_stand_alone.Goals as goal

pub returns-clause-trees : goal.returns-clause-trees
returns-clause-trees c = policies_stand_alone

pub returns-clause-texts : goal.returns-clause-texts
returns-clause-texts c = tokens_tell_policies
