use Rattle.std.proofs.Common.{drop, subst}
use Rattle.std.specs.Prelude.{MatchResult}
use Rattle.cedar_grammar.specs.Refusals.{RefusesTokens}
use Rattle.cedar_reading.specs.Tokens.{HasTokens}
use Rattle.cedar_cst.specs.PolicyReaders.{Position}
use Rattle.cedar_cst.proofs.Readers.{rest_checked}
use Rattle.cedar_cst.proofs.cst.reader.PolicyReader.check_rest.Goals as goal

pub returns-in-Err : goal.returns-in-Err
returns-in-Err c =
    subst (λ (z : Position). MatchResult c.check_tokens-in-Err.result
    (λ _. HasTokens (drop z.at z.text)) (RefusesTokens z.text)) c.self.view_is
    (rest_checked c.self.inside.text.now c.self.inside.at c.self.invariant
    c.check_tokens-in-Err.result c.check_tokens-in-Err.ensures.tokens)
