use Rattle.cedar_tokens.proofs.PlainAlready.{trails_all}
use Rattle.cedar_tokens.proofs.commas.has_trailing_comma.Goals as goal

pub loop-token-init : goal.loop-token-init
loop-token-init c = trails_all c.args.tokens.now
