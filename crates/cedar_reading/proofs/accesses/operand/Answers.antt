use Rattle.std.proofs.Common.{refl}
use Rattle.cedar_grammar.proofs.Views.{view_operand}
use Rattle.cedar_reading.proofs.accesses.operand.Goals as goal

pub returns : goal.returns
returns c = (
  view_operand c.args.item c.args.access c.args.span c.new.result c.new-2.result c.new.ensures.items
      c.new-2.ensures.items,
  refl,
)
