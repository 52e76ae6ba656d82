use Rattle.cedar_policy_formatter.proofs.OutputPolicies.{outputs_keep_the_policies, outputs_keep_the_trees}
use Rattle.cedar_policy_formatter.proofs.laws.outputs_keep_the_policies.Goals as goal

pub returns-clause-policies : goal.returns-clause-policies
returns-clause-policies c =
    outputs_keep_the_policies c.written_outputs_agree.ensures.back c.nodes_have_the_plain_texts.ensures
    c.outputs_are_canonical.ensures.accepted c.outputs_are_canonical.ensures.list

pub returns-clause-trees : goal.returns-clause-trees
returns-clause-trees c = outputs_keep_the_trees c.written_outputs_agree.ensures.back
    c.outputs_are_canonical.ensures.accepted c.outputs_are_canonical.ensures.list
