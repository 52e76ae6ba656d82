use Rattle.cedar_tokens.specs.Places.{AreTokenSpans}
use Rattle.cedar_tokens.proofs.Collecting.{spans_of, collected_none, collected_more, collected_list, collected_spans, spans_in_order}
use Rattle.cedar_tokens.proofs.lexer.split_token_stream.Goals as goal

pub tokens-init : goal.tokens-init
tokens-init c = collected_none _ _ _ c.new-tokens.ensures.items c.requires c.of_split-reader.ensures

pub tokens-preserved : goal.tokens-preserved
tokens-preserved c = collected_more _ _ _ _ _ c.in-Some.token c.tokens.invariant
    (λ l spans h. rw c.in-Some.is at (c.in_ok-token.ensures.next c.args.input.now l spans h))
    c.in_ok-push.ensures.items

pub returns-clause-listing : goal.returns-clause-listing
returns-clause-listing c = collected_list _ _ _ _ c.tokens.invariant
    (λ l spans h. rw c.in_default.is at (c.in_ok-token.ensures.next c.args.input.now l spans h))
    (λ l spans h. c.closing.ensures c.args.input.now l spans
    (rw (rw c.in_default.is at c.in_ok-token.ensures.none) h))

spans : (c : goal.After-closing) → AreTokenSpans c.args.input.now (spans_of c.tokens.tokens.items)
spans c = collected_spans _ _ _ c.tokens.invariant
    (λ l spans h. rw c.in_default.is at (c.in_ok-token.ensures.next c.args.input.now l spans h))

pub returns-clause-spans : goal.returns-clause-spans
returns-clause-spans c = spans c

pub returns-clause-order : goal.returns-clause-order
returns-clause-order c = spans_in_order c.args.input.now _ (spans c)
