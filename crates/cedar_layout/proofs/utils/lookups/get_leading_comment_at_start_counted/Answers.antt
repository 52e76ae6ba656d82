use Rattle.std.proofs.Common.{get_or, sym, ◌∙◌}
use Rattle.cedar_layout.specs.Lookups.{starts_at}
use Rattle.cedar_layout.proofs.HandedOut.{order_of_set, place_inside, led_at, none_named, shows_unled}
use Rattle.cedar_layout.proofs.utils.lookups.get_leading_comment_at_start_counted.Goals as goal

pub returns-in_err-place-clause-answer : goal.returns-in_err-place-clause-answer
returns-in_err-place-clause-answer g c = rw c.from_residual.ensures (none_named
    (starts_at c.args.span.start) c.args.tokens.now (sym c.find.ensures.place ∙ c.in_err-place.was))

pub returns-clause-answer : goal.returns-clause-answer
returns-clause-answer g c =
    let e = c.consume_leading_comment.ensures in
    led_at (starts_at c.args.span.start) c.args.tokens.now c.in_ok-place.place
    c.index-tokens-place.result c.consume_leading_comment.new.self _
    (sym c.in_ok-place.ensures.place)
    (shows_unled c.consume_leading_comment.new.self (get_or c.args.tokens.now c.in_ok-place.place
    c.index-tokens-place.result) e.emptied e.rest.0 e.rest.1 e.rest.2)
    e.taken

pub returns-clause-order : goal.returns-clause-order
returns-clause-order g c =
    order_of_set c.args.tokens.now c.in_ok-place.place c.index-tokens-place.result
    c.consume_leading_comment.new.self
    (place_inside (starts_at c.args.span.start) c.args.tokens.now c.in_ok-place.place
    c.index-tokens-place.result (sym c.in_ok-place.ensures.place))
    c.consume_leading_comment.ensures.rest.2 c.requires
