use Rattle.std.proofs.Common.{refl}
use Rattle.cedar_faults.specs.Inside.Leaving.{LeavesAfter}
use Rattle.cedar_faults.proofs.RightAfter.{from_before, at_boundary, rest_is_utf8, back_split, front_tokens, is_expected}
use Rattle.cedar_faults.proofs.expected.expected.Goals as goal

pub overflow_sub-leaving : goal.overflow_sub-leaving
overflow_sub-leaving c =
    let b : LeavesAfter c.args.text.now c.in-Some.leaving =
    rw c.in-Some.is at c.in_ok-leaving.ensures in
    from_before c.args.text.now c.in-Some.leaving b

pub split_at-requires : goal.split_at-requires
split_at-requires c =
    let text = c.args.text.now in
    let l = c.in-Some.leaving in
    let b : LeavesAfter text l = rw c.in-Some.is at c.in_ok-leaving.ensures in
    at_boundary text l b (rest_is_utf8 text l b c.utf8.text)

pub what_follows-requires : goal.what_follows-requires
what_follows-requires c =
    let b : LeavesAfter c.args.text.now c.in-Some.leaving =
    rw c.in-Some.is at c.in_ok-leaving.ensures in
    rw c.split_at.ensures.front (front_tokens c.args.text.now c.in-Some.leaving b)

pub returns : goal.returns
returns c =
    let text = c.args.text.now in
    let l = c.in-Some.leaving in
    let b : LeavesAfter text l = rw c.in-Some.is at c.in_ok-leaving.ensures in
    let found =
    c.first_unit.ensures b.leaves.after (rw c.split_at.ensures.back (back_split text l b)) in
    is_expected text l b c.split_at.result.0.now _ c.split_at.ensures.front refl found
    c.in_ok-next.ensures.kinds c.in_ok-names.ensures c.in_ok-next.ensures.end
