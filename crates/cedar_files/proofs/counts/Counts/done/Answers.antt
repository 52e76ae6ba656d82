use Rattle.std.proofs.Common.{arith}
use Rattle.cedar_files.proofs.CountLemmas.{all_counted}
use Rattle.cedar_files.proofs.counts.Counts.done.Goals as goal

pub returns : goal.returns
returns c = λ outcomes h. omega (
  arith,
  all_counted outcomes,
  h.changed,
  h.same,
  h.refused,
  h.failed,
  c.saturating_add.ensures,
  c.saturating_add-2.ensures,
  c.saturating_add-3.ensures,
)
