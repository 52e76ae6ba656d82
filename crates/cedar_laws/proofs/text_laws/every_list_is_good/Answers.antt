use Rattle.cedar_laws.proofs.GoodLists.{every_list_good, plain_list_good}
use Rattle.cedar_laws.proofs.text_laws.every_list_is_good.Goals as goal

pub returns-clause-list : goal.returns-clause-list
returns-clause-list c = every_list_good

pub returns-clause-plain : goal.returns-clause-plain
returns-clause-plain c = plain_list_good
