use Rattle.std.proofs.Common.{rules}
use Rattle.cedar_documents.proofs.Listing.{listed_signs}
use Rattle.cedar_documents.proofs.items.list_signs.Goals as goal

pub returns : goal.returns
returns c = search (rules, listed_signs)
