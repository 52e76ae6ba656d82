use Rattle.std.proofs.Common.{inr}
use Rattle.cedar_policy_formatter.proofs.ranges.pieces.push_edit.Goals as goal

pub returns-in_ok-push : goal.returns-in_ok-push
returns-in_ok-push c = inr (
  c.in-Some.edit,
  c.in_ok-push.ensures.items,
  rw c.in-Some.is at c.in_ok-edit.ensures.edit,
  rw c.in-Some.is at c.in_ok-edit.ensures.least,
)
