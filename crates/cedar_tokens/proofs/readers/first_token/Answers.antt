use Rattle.std.proofs.Common.{◌≡◌, Some, rules, arith, ap, length}
use Rattle.std.proofs.lemmas.List.{length-drop}
use Rattle.cedar_tokens.proofs.Gaps.{token_length, found_first}
use Rattle.cedar_tokens.proofs.readers.first_token.Goals as goal

pub split_at-requires : goal.split_at-requires
split_at-requires c =
    let is : c.args.ahead.now.token ≡ Some c.in_ok-len.len = search rules in
    (c.args.ahead.now.some _ is).1

pub returns-clause-token : goal.returns-clause-token
returns-clause-token c =
    let is : c.args.ahead.now.token ≡ Some c.in_ok-len.len = search rules in
    let h = c.args.ahead.now.some _ is in
    found_first _ _ _ _ _ _ h c.split_at.ensures.front c.split_at.ensures.back
    c.gap_len-gap.ensures.gap c.split_at-2.ensures.front c.split_at-2.ensures.back
    c.split_gap.ensures.trailing c.split_gap.ensures.leading

pub returns-clause-shorter : goal.returns-clause-shorter
returns-clause-shorter c =
    let is : c.args.ahead.now.token ≡ Some c.in_ok-len.len = search rules in
    let h = c.args.ahead.now.some _ is in
    omega (
      arith,
      token_length _ _ h,
      h.1.0,
      ap length c.split_at.ensures.back,
      length-drop c.in_ok-len.len c.args.ahead.now.text.now,
      ap length c.split_at-2.ensures.back,
    )
