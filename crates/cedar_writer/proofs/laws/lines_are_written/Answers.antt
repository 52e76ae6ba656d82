use Rattle.cedar_writer.proofs.PolicyRows.{expressions_agree, policies_agree, sets_are_written, sets_are_of_documents}
use Rattle.cedar_writer.proofs.laws.lines_are_written.Goals as goal

pub returns-clause-expressions : goal.returns-clause-expressions
returns-clause-expressions c = expressions_agree

pub returns-clause-policies : goal.returns-clause-policies
returns-clause-policies c = policies_agree

pub returns-clause-there : goal.returns-clause-there
returns-clause-there c = sets_are_written

pub returns-clause-back : goal.returns-clause-back
returns-clause-back c = sets_are_of_documents
