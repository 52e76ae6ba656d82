use Rattle.cedar_grammar.proofs.RefusalLaws.{accepted_is_not_refused}
use Rattle.cedar_grammar.proofs.tree_laws.accepted_is_not_refused.Goals as goal

pub returns : goal.returns
returns c = accepted_is_not_refused c.split_is_unique.ensures c.fault_is_unique.ensures
    c.fault_prevents_split.ensures
