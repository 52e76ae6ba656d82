use Rattle.cedar_policy_formatter.proofs.OutputPolicies.{kept_policies_have_the_same_tokens}
use Rattle.cedar_policy_formatter.proofs.laws.kept_policies_have_the_same_tokens.Goals as goal

pub returns : goal.returns
returns c = kept_policies_have_the_same_tokens
