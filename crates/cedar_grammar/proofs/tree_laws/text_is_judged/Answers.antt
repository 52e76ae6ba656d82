use Rattle.cedar_grammar.proofs.RefusalLaws.{text_is_judged}
use Rattle.cedar_grammar.proofs.tree_laws.text_is_judged.Goals as goal

pub returns : goal.returns
returns c = text_is_judged
