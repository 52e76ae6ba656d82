use Rattle.std.proofs.Common.{refl, []}
use Rattle.cedar_grammar.specs.Trees.{Label}
use Rattle.cedar_reading.proofs.Rows.{row_node}
use Rattle.cedar_reading.proofs.Operands.{operand_done, operand_stands}
use Rattle.cedar_cst.proofs.cst.scopes.parse_entity_operand.Goals as goal

pub returns-clause-reads : goal.returns-clause-reads
returns-clause-reads c =
    let h = c.in_ok-entity.ensures.reads in (
      _,
      operand_done _ _ _ _ h.1,
      operand_stands c.in_ok-entity.entity [] _ c.lone_operand.result _ c.lone_operand.ensures
          (row_node Label.primary _ _ h.0 refl h.2),
    )
