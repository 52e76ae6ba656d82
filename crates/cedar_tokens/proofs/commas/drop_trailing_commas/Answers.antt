use Rattle.std.proofs.Common.{◌≡◌, false, ap, map, rules}
use Rattle.cedar_tokens.specs.Tokens.{bare}
use Rattle.cedar_tokens.specs.Inside.MovedLines.{has_trailing_comma}
use Rattle.cedar_tokens.proofs.PlainAlready.{plain_already, kept_already}
use Rattle.cedar_tokens.proofs.KeptOrder.{order_without_commas}
use Rattle.cedar_tokens.proofs.commas.drop_trailing_commas.Goals as goal

pub returns-clause-order : goal.returns-clause-order
returns-clause-order c =
    order_without_commas c.args.tokens.now.items c.without_trailing_commas.result.items
    (rw c.replace-all.ensures.value at c.without_trailing_commas.ensures.kept)

none : (c : goal.Then-not-has_trailing_comma) → has_trailing_comma c.args.tokens.now.items ≡ false
none c = search rules

pub returns-then-not-has_trailing_comma-clause-plain :
    goal.returns-then-not-has_trailing_comma-clause-plain
returns-then-not-has_trailing_comma-clause-plain c = plain_already c.args.tokens.now.items (none c)

pub returns-then-not-has_trailing_comma-clause-kept :
    goal.returns-then-not-has_trailing_comma-clause-kept
returns-then-not-has_trailing_comma-clause-kept c =
    ap (map bare) (kept_already c.args.tokens.now.items (none c))
