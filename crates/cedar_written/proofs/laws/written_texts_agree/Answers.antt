use Rattle.cedar_written.proofs.Outputs.{accepted_agree, leaves_agree, refusals_agree, errors_agree}
use Rattle.cedar_written.proofs.laws.written_texts_agree.Goals as goal

pub returns-clause-accepted : goal.returns-clause-accepted
returns-clause-accepted c = accepted_agree

pub returns-clause-leaves : goal.returns-clause-leaves
returns-clause-leaves c = leaves_agree

pub returns-clause-refused : goal.returns-clause-refused
returns-clause-refused c = refusals_agree

pub returns-clause-errors : goal.returns-clause-errors
returns-clause-errors c = errors_agree
