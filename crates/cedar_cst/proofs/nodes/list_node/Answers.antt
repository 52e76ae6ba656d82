use Rattle.std.proofs.Common.{refl}
use Rattle.cedar_grammar.proofs.Views.{view_list}
use Rattle.cedar_cst.proofs.nodes.list_node.Goals as goal

pub returns-clause-made : goal.returns-clause-made
returns-clause-made c = (
  c.followed_by.result,
  c.followed_by.ensures.reads,
  rw (c.branch-items.ensures, c.in_ok-items.is) refl,
  rw (c.branch-items.ensures, c.in_ok-items.is, c.in_ok-new.ensures.ok)
      (view_list c.in_ok-items.items, refl),
)
