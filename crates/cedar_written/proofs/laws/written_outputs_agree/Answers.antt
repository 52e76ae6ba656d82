use Rattle.cedar_written.proofs.Outputs.{table_outputs_are_outputs, outputs_are_the_tables}
use Rattle.cedar_written.proofs.laws.written_outputs_agree.Goals as goal

pub returns-clause-there : goal.returns-clause-there
returns-clause-there c = table_outputs_are_outputs

pub returns-clause-back : goal.returns-clause-back
returns-clause-back c = outputs_are_the_tables
