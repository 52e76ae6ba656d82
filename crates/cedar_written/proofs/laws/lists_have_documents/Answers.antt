use Rattle.cedar_written.proofs.Lists.{lists_agree, grammars_agree_in_texts}
use Rattle.cedar_written.proofs.laws.lists_have_documents.Goals as goal

pub returns-clause-lists : goal.returns-clause-lists
returns-clause-lists c = lists_agree

pub returns-clause-texts : goal.returns-clause-texts
returns-clause-texts c = grammars_agree_in_texts
