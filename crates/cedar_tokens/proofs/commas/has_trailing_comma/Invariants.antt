use Rattle.std.proofs.Common.{◌≡◌, drop}
use Rattle.cedar_tokens.specs.Inside.MovedLines.{has_trailing_comma}
use Rattle.cedar_tokens.proofs.PlainAlready.{trails}
use Rattle.cedar_tokens.proofs.commas.has_trailing_comma.Given as goal

abbrev pub invariant-loop-token : goal.invariant-loop-token
invariant-loop-token l =
    trails l.after_comma (drop l.token-index l.tokens) ≡ has_trailing_comma l.tokens
