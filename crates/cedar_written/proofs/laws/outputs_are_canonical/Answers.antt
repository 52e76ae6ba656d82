use Rattle.cedar_written.proofs.Canonical.{accepted_has_output, output_accepted, output_list, outputs_tell, output_again}
use Rattle.cedar_written.proofs.laws.outputs_are_canonical.Goals as goal

pub returns-clause-some : goal.returns-clause-some
returns-clause-some c = accepted_has_output

pub returns-clause-accepted : goal.returns-clause-accepted
returns-clause-accepted c = output_accepted

pub returns-clause-list : goal.returns-clause-list
returns-clause-list c = output_list

pub returns-clause-equal : goal.returns-clause-equal
returns-clause-equal c = outputs_tell

pub returns-clause-again : goal.returns-clause-again
returns-clause-again c = output_again
