use Rattle.std.proofs.Common.{arith, sym, ◌∙◌}
use Rattle.cedar_layout.proofs.Halving.{edge_found, edge_missed, edge_absent}
use Rattle.cedar_layout.proofs.utils.lookups.find_at.Goals as goal

pub returns-in_err-place-clause-place : goal.returns-in_err-place-clause-place
returns-in_err-place-clause-place g c =
    c.from_residual.ensures ∙ edge_absent c.args.edge c.args.at c.args.tokens.now
    (sym c.in_err-place.was ∙ c.find_from.ensures.place)

pub returns-then-of-at-clause-place : goal.returns-then-of-at-clause-place
returns-then-of-at-clause-place g c =
    edge_found c.args.edge c.args.at c.args.tokens.now c.in_ok-place.place
    c.index-tokens-place.result c.in_ok-place.ensures.place
    (sym c.of.ensures ∙ c.if-of-at.true)

pub returns-else-of-at-clause-place : goal.returns-else-of-at-clause-place
returns-else-of-at-clause-place g c =
    edge_missed c.args.edge c.args.at c.args.tokens.now c.in_ok-place.place
    c.index-tokens-place.result c.requires
    c.in_ok-place.ensures.place (omega (arith, c.of.ensures, c.if-of-at.false))
