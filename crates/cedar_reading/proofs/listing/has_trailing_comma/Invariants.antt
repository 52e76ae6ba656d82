use Rattle.std.proofs.Common.{◌≡◌, drop}
use Rattle.cedar_reading.specs.PlainListing.{has_trailing_comma}
use Rattle.cedar_reading.proofs.PlainAlready.{trails}
use Rattle.cedar_reading.proofs.listing.has_trailing_comma.Given as goal

abbrev pub invariant-loop-token : goal.invariant-loop-token
invariant-loop-token l =
    trails l.after_comma (drop l.token-index l.tokens) ≡ has_trailing_comma l.tokens
