use Rattle.std.proofs.lemmas.Str.{IsCharBoundary-start}
use Rattle.cedar_cst.proofs.Readers.{reader_begins, read_none}
use Rattle.cedar_cst.proofs.cst.reader.PolicyReader.new.Goals as goal

pub invariant_of-result : goal.invariant_of-result
invariant_of-result c = reader_begins _ (IsCharBoundary-start _ c.utf8.text)

pub returns : goal.returns
returns c = read_none _
