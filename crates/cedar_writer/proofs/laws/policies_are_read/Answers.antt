use Rattle.cedar_writer.proofs.ReadPolicies.{read_policies_are_written, written_policies_are_read, policies_have_one_document}
use Rattle.cedar_writer.proofs.Furthest.{refused_at_the_furthest}
use Rattle.cedar_writer.proofs.AnyRoom.{written_policies_are_not_refused, reading_ends_after_policies}
use Rattle.cedar_writer.proofs.laws.policies_are_read.Goals as goal

pub returns-clause-there : goal.returns-clause-there
returns-clause-there c = read_policies_are_written

pub returns-clause-back : goal.returns-clause-back
returns-clause-back c = written_policies_are_read

pub returns-clause-accepted : goal.returns-clause-accepted
returns-clause-accepted c = written_policies_are_not_refused

pub returns-clause-ends : goal.returns-clause-ends
returns-clause-ends c = reading_ends_after_policies

pub returns-clause-one : goal.returns-clause-one
returns-clause-one c = policies_have_one_document

pub returns-clause-refused : goal.returns-clause-refused
returns-clause-refused c = refused_at_the_furthest
