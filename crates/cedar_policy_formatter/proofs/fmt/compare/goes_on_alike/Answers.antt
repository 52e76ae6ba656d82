use Rattle.cedar_policy_formatter.proofs.EqualLists.{told_next}
use Rattle.cedar_policy_formatter.proofs.Comparisons.{in_order}
use Rattle.cedar_policy_formatter.proofs.fmt.compare.goes_on_alike.Goals as goal

pub same_tokens-requires-clause-first : goal.same_tokens-requires-clause-first
same_tokens-requires-clause-first c = in_order c.args.text.now c.args.tokens.now.items c.requires

pub same_tokens-requires-clause-second : goal.same_tokens-requires-clause-second
same_tokens-requires-clause-second c =
    in_order c.in-Ok-Some.field-0-0.now c.next_text.new.tokens.items
    (rw (c.in-Ok-Some.is, c.in-Ok-Some.field-0-is) at c.next_text.ensures.tokens)

pub returns-in-Ok-Some-clause-next : goal.returns-in-Ok-Some-clause-next
returns-in-Ok-Some-clause-next c =
    let found = rw (c.in-Ok-Some.is, c.in-Ok-Some.field-0-is) at c.next_text.ensures in
    told_next c.args.text.now c.args.reader.now c.next_text.new.self c.in-Ok-Some.field-0-0.now
    c.args.tokens.now.items c.next_text.new.tokens.items c.same_tokens.result
    c.requires found.tokens found.answer found.accepted c.same_tokens.ensures
