use Rattle.std.proofs.Common.{◌≡◌, [], ◌∷◌, cond, ap, ◌∙◌, arith, rules}
use Rattle.cedar_policy_formatter.specs.RangeEdits.{feeds_after}
use Rattle.cedar_policy_formatter.proofs.LastBytes.{feeds_by_test}
use Rattle.cedar_policy_formatter.proofs.ranges.format.push_feeds.Goals as goal
use Rattle.cedar_tokens.specs.Bytes.{line_feed}

pub returns-then-ends_with : goal.returns-then-ends_with
returns-then-ends_with c =
    let e : feeds_after c.args.before.now ≡ line_feed ∷ [] =
    feeds_by_test c.args.before.now c.is_empty.result c.ends_with.result c.is_empty.ensures
    c.if-is_empty.false (c.ends_with.ensures.byte (omega arith) (omega arith) (λ w o h. h))
    ∙ ap (λ t. cond t (line_feed ∷ []) (line_feed ∷ (line_feed ∷ []))) c.if-ends_with.true in
    rw e (search rules)

pub returns-else-ends_with : goal.returns-else-ends_with
returns-else-ends_with c =
    let e : feeds_after c.args.before.now ≡ line_feed ∷ (line_feed ∷ []) =
    feeds_by_test c.args.before.now c.is_empty.result c.ends_with.result c.is_empty.ensures
    c.if-is_empty.false (c.ends_with.ensures.byte (omega arith) (omega arith) (λ w o h. h))
    ∙ ap (λ t. cond t (line_feed ∷ []) (line_feed ∷ (line_feed ∷ []))) c.if-ends_with.false in
    rw e (search rules)
