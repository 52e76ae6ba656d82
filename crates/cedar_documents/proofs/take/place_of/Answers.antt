use Rattle.cedar_documents.proofs.Places.{first_from}
use Rattle.cedar_documents.proofs.take.place_of.Goals as goal

pub returns-then-tokens-place : goal.returns-then-tokens-place
returns-then-tokens-place c =
    first_from c.args.byte 0 c.args.tokens.now c.args.place c.index-tokens-place.result c.requires
    c.if-place-tokens.true c.if-tokens-place.true
