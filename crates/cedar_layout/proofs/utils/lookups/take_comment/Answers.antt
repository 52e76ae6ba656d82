use Rattle.std.proofs.Common.{get_or, sym, ◌∙◌}
use Rattle.cedar_layout.specs.Inside.Halving.{is_sought}
use Rattle.cedar_layout.proofs.HandedOut.{order_of_set, place_inside, handed_at, none_named, shows_emptied, same_parts}
use Rattle.cedar_layout.proofs.utils.lookups.take_comment.Goals as goal

pub returns-in_err-place-clause-answer : goal.returns-in_err-place-clause-answer
returns-in_err-place-clause-answer g c = rw c.from_residual.ensures (none_named
    (is_sought c.args.sought) c.args.tokens.now (sym c.find.ensures.place ∙ c.in_err-place.was))

pub returns-clause-answer : goal.returns-clause-answer
returns-clause-answer g c =
    let e = c.consume_comment.ensures in
    handed_at (is_sought c.args.sought) c.args.tokens.now c.in_ok-place.place
    c.index-tokens-place.result c.consume_comment.new.self _ (sym c.in_ok-place.ensures.place)
    (shows_emptied c.consume_comment.new.self (get_or c.args.tokens.now c.in_ok-place.place
    c.index-tokens-place.result) e.emptied.0 e.emptied.1 e.rest.0 e.rest.1)
    (same_parts c.consume_comment.result (get_or c.args.tokens.now c.in_ok-place.place
    c.index-tokens-place.result).comment e.lines e.trailing)

pub returns-clause-order : goal.returns-clause-order
returns-clause-order g c =
    order_of_set c.args.tokens.now c.in_ok-place.place c.index-tokens-place.result
    c.consume_comment.new.self
    (place_inside (is_sought c.args.sought) c.args.tokens.now c.in_ok-place.place
    c.index-tokens-place.result (sym c.in_ok-place.ensures.place))
    c.consume_comment.ensures.rest.1 c.requires
