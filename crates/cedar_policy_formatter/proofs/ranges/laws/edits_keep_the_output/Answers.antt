use Rattle.cedar_policy_formatter.proofs.ListLaws.{lists_have_one_output, lists_follow}
use Rattle.cedar_policy_formatter.proofs.ranges.laws.edits_keep_the_output.Goals as goal

pub returns-clause-output : goal.returns-clause-output
returns-clause-output c = lists_have_one_output

pub returns-clause-follow : goal.returns-clause-follow
returns-clause-follow c = lists_follow
