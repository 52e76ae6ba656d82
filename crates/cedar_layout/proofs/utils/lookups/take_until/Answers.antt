use Rattle.std.proofs.Common.{map}
use Rattle.cedar_layout.specs.Lookups.{comment_parts}
use Rattle.cedar_layout.proofs.Ranges.{until_answer, until_left, until_refused}
use Rattle.cedar_layout.proofs.utils.lookups.take_until.Goals as goal

pub returns-clause-answer : goal.returns-clause-answer
returns-clause-answer c =
    until_answer c.take_all.result
    (λ v. map comment_parts v.items) c.args.span c.args.tokens.now c.count_until-count.result
    c.requires c.count_until-count.ensures.count c.take_all.ensures.answer

pub returns-clause-left : goal.returns-clause-left
returns-clause-left c =
    until_left c.take_all.result c.args.span c.args.tokens.now c.take_all.new.tokens
    c.count_until-count.result
    c.requires c.count_until-count.ensures.count c.take_all.ensures.left

pub returns-clause-refused : goal.returns-clause-refused
returns-clause-refused c =
    until_refused c.take_all.result c.args.tokens.now c.take_all.new.tokens
    c.count_until-count.result c.take_all.ensures.refused
