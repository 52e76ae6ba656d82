use Rattle.std.proofs.Common.{refl}
use Rattle.cedar_grammar.proofs.Views.{view_record}
use Rattle.cedar_cst.proofs.nodes.record_node.Goals as goal

pub returns-clause-made : goal.returns-clause-made
returns-clause-made c = (
  c.followed_by.result,
  c.followed_by.ensures.reads,
  rw (c.branch-entries.ensures, c.in_ok-entries.is) refl,
  rw (c.branch-entries.ensures, c.in_ok-entries.is, c.in_ok-new.ensures.ok)
      (view_record c.in_ok-entries.entries, refl),
)
