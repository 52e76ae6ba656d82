use Rattle.cedar_written.proofs.EqualLists.{output_keeps_the_list, equal_lists_have_equal_outputs}
use Rattle.cedar_written.proofs.laws.outputs_keep_lists.Goals as goal

pub returns-clause-keeps : goal.returns-clause-keeps
returns-clause-keeps c = output_keeps_the_list

pub returns-clause-equal : goal.returns-clause-equal
returns-clause-equal c = equal_lists_have_equal_outputs
