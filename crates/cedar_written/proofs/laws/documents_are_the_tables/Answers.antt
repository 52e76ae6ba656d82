use Rattle.cedar_written.proofs.Lists.{documents_are_the_tables, tables_are_documents, documents_are_unique}
use Rattle.cedar_written.proofs.laws.documents_are_the_tables.Goals as goal

pub returns-clause-there : goal.returns-clause-there
returns-clause-there c = documents_are_the_tables

pub returns-clause-back : goal.returns-clause-back
returns-clause-back c = tables_are_documents

pub returns-clause-one : goal.returns-clause-one
returns-clause-one c = documents_are_unique
