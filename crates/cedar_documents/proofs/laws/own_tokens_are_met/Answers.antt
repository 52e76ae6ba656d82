use Rattle.cedar_documents.proofs.MetTokens.{nodes_met, policies_met}
use Rattle.cedar_documents.proofs.laws.own_tokens_are_met.Goals as goal

pub returns-clause-policies : goal.returns-clause-policies
returns-clause-policies c = policies_met

pub returns-clause-within : goal.returns-clause-within
returns-clause-within c = nodes_met
