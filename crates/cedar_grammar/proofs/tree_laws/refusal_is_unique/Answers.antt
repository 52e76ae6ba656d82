use Rattle.cedar_grammar.proofs.RefusalLaws.{refusal_is_unique}
use Rattle.cedar_grammar.proofs.tree_laws.refusal_is_unique.Goals as goal

pub returns : goal.returns
returns c = refusal_is_unique c.split_is_unique.ensures c.fault_is_unique.ensures
    c.fault_prevents_split.ensures
