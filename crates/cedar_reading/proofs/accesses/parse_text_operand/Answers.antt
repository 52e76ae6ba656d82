use Rattle.std.proofs.Common.{refl, []}
use Rattle.cedar_grammar.specs.Trees.{Label}
use Rattle.cedar_reading.proofs.Rows.{row_node}
use Rattle.cedar_reading.proofs.Operands.{operand_done, operand_stands}
use Rattle.cedar_reading.proofs.accesses.parse_text_operand.Goals as goal

pub returns-clause-reads : goal.returns-clause-reads
returns-clause-reads c =
    let h = c.in_ok-primary.ensures.reads in (
      _,
      operand_done _ _ _ _ h.1,
      operand_stands _ [] _ c.lone_operand.result _ c.lone_operand.ensures
          (row_node Label.primary _ _ _ refl h.2),
    )
