use Rattle.cedar_cst.proofs.LoneOrs.{lone_or}
use Rattle.cedar_cst.proofs.cst.scopes.lone_or.Goals as goal

pub returns : goal.returns
returns c = lone_or c.args.operand c.in_ok-new.field-0 c.in_ok-relation.relation c.in_ok-and.and _ _
    c.or_node.result c.in_ok-new.ensures.ok c.new-2.ensures.items c.new-3.ensures.items
    c.in_ok-relation.ensures c.in_ok-and.ensures c.or_node.ensures
