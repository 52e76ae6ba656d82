use Rattle.cedar_laws.proofs.CanonicalForm.{output_exists, outputs_by_value, output_ends, policy_lines, documents_by_value}
use Rattle.cedar_laws.proofs.laws.outputs_are_determined.Goals as goal

pub returns-clause-some : goal.returns-clause-some
returns-clause-some c = output_exists

pub returns-clause-one : goal.returns-clause-one
returns-clause-one c = outputs_by_value

pub returns-clause-end : goal.returns-clause-end
returns-clause-end c = output_ends

pub returns-clause-lines : goal.returns-clause-lines
returns-clause-lines c = policy_lines

pub returns-clause-documents : goal.returns-clause-documents
returns-clause-documents c = documents_by_value
