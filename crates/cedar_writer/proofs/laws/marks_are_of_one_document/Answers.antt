use Rattle.cedar_writer.proofs.OneDocument.{marks_are_of_one}
use Rattle.cedar_writer.proofs.laws.marks_are_of_one_document.Goals as goal

pub returns : goal.returns
returns c = marks_are_of_one
