use Rattle.cedar_tokens.proofs.Scanning.{listing_unique}
use Rattle.cedar_tokens.proofs.laws.listing_is_unique.Goals as goal

pub returns : goal.returns
returns c = listing_unique
