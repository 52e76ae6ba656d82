use Rattle.std.proofs.Common.{length, ◌-◌, map, sym, ◌∙◌}
use Rattle.cedar_layout.specs.Lookups.{comment_parts}
use borrow.Rule.Slice.PartMut.{put_mid}
use Rattle.cedar_layout.proofs.HandedOut.{order_of_range}
use Rattle.cedar_layout.proofs.Ranges.{from_answer, from_left, from_refused, nothing_taken, ordered_rest}
use Rattle.cedar_layout.proofs.utils.lookups.take_from.Goals as goal

pub take_until-requires : goal.take_until-requires
take_until-requires c = ordered_rest c.args.span.start c.args.tokens.now c.in-Some.first
    c.requires.order (sym c.in-Some.is ∙ c.requires.first)

pub returns-in-Some-clause-answer : goal.returns-in-Some-clause-answer
returns-in-Some-clause-answer c =
    from_answer c.take_until.result
    (λ v. map comment_parts v.items) c.args.span c.args.tokens.now c.in-Some.first
    (sym c.in-Some.is ∙ c.requires.first) c.take_until.ensures.answer

pub returns-in-Some-clause-left : goal.returns-in-Some-clause-left
returns-in-Some-clause-left c =
    from_left c.take_until.result c.args.span c.args.tokens.now c.take_until.new.tokens
    c.in-Some.first
    (sym c.in-Some.is ∙ c.requires.first) c.take_until.ensures.left

pub returns-in-Some-clause-refused : goal.returns-in-Some-clause-refused
returns-in-Some-clause-refused c =
    from_refused c.take_until.result c.args.tokens.now c.take_until.new.tokens c.in-Some.first
    c.take_until.ensures.refused

pub returns-in-None-clause-answer : goal.returns-in-None-clause-answer
returns-in-None-clause-answer c =
    rw c.new.ensures.items
    (sym (nothing_taken c.args.span c.args.tokens.now (sym c.in-None.is ∙ c.requires.first)).0)

pub returns-in-None-clause-left : goal.returns-in-None-clause-left
returns-in-None-clause-left c =
    sym (nothing_taken c.args.span c.args.tokens.now (sym c.in-None.is ∙ c.requires.first)).1

pub returns-in-Some-clause-order : goal.returns-in-Some-clause-order
returns-in-Some-clause-order c =
    let ts = c.args.tokens.now in
    let i = c.in-Some.first in
    order_of_range c.take_until.result c.args.span ts
    (put_mid i (length ts - i) ts c.take_until.new.tokens)
    (from_left c.take_until.result c.args.span ts c.take_until.new.tokens i
    (sym c.in-Some.is ∙ c.requires.first) c.take_until.ensures.left)
    (from_refused c.take_until.result ts c.take_until.new.tokens i c.take_until.ensures.refused)
    c.requires.order
