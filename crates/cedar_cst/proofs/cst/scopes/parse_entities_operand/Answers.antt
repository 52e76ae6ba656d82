use Rattle.std.proofs.Common.{refl, sym, ◌∙◌, []}
use Rattle.cedar_grammar.specs.Trees.{Label}
use Rattle.cedar_grammar.proofs.Readers.Equations.{choice_yes, choice_no}
use Rattle.cedar_grammar.specs.Erased.{add_parts}
use Rattle.cedar_reading.proofs.Steps.{passes, gives_as}
use Rattle.cedar_reading.proofs.Refusals.{refused}
use Rattle.cedar_reading.proofs.Rows.{row_node}
use Rattle.cedar_reading.proofs.Operands.{operand_done, operand_fails, operand_stands}
use Rattle.cedar_cst.proofs.cst.scopes.parse_entities_operand.Goals as goal

pub returns-in_err-entities-clause-reads : goal.returns-in_err-entities-clause-reads
returns-in_err-entities-clause-reads c =
    rw (refused c.from_residual.ensures.1) (passes _ _ _ c.in_err-entities.ensures.reads (λ x r e.
    choice_yes _ _ _ _ (sym c.begins.ensures ∙ c.if-begins.true) ∙ operand_fails _ _ x r e))

pub returns-then-begins-clause-reads : goal.returns-then-begins-clause-reads
returns-then-begins-clause-reads c =
    let h = c.in_ok-entities.ensures.reads in (
      _,
      choice_yes _ _ _ _ (sym c.begins.ensures ∙ c.if-begins.true) ∙ operand_done _ _ _ _ h.1,
      operand_stands c.into_inner.result [] _ c.lone_operand.result _ c.lone_operand.ensures
          (rw c.into_inner.ensures (row_node Label.primary _ _ h.0 refl h.2)),
    )

pub returns-clause-reads : goal.returns-clause-reads
returns-clause-reads c = gives_as Label.add add_parts c.parse_entity_operand.result _ _
    c.parse_entity_operand.ensures.reads
    (choice_no _ _ _ _ (sym c.begins.ensures ∙ c.if-begins.false))
