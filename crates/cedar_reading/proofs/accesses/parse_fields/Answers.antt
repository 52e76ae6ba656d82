use Rattle.std.proofs.Common.{refl, sym, ap, ◌∙◌, [], ◌∷◌, arith}
use Rattle.cedar_grammar.specs.Trees.{Label}
use Rattle.cedar_grammar.proofs.Readers.Equations.{tree_done}
use Rattle.cedar_reading.specs.Reading.{last_end}
use Rattle.cedar_grammar.specs.Erased.{access_parts}
use Rattle.cedar_reading.proofs.Steps.{passes}
use Rattle.cedar_reading.proofs.Refusals.{refused}
use Rattle.cedar_reading.proofs.Rows.{row_span}
use Rattle.cedar_reading.proofs.Operands.{operand_stands, members_done, members_fail, keep_done, keep_fails, keep_shorter, head, dotted, field_reader, field_takes, fields_first, one_access, accesses_next, accesses_stuck, accesses_end, lone_name}
use Rattle.cedar_reading.proofs.accesses.parse_fields.Goals as goal

pub fields-init : goal.fields-init
fields-init c =
    let h = c.in_ok-word.ensures.reads in
    let n = c.name_node.ensures in (
      c.in_ok-word.ensures.shorter,
      rw c.new-access.ensures.items
          (fields_first _ _ _ _ (tree_done Label.primary _ _ _ _ (tree_done Label.name _ _ _ _ h.1))
          (lone_name _ c.name_node.result c.name_primary-item.result _ h.2
          (rw c.new.ensures.items at n) c.name_primary-item.ensures)),
    )

pub fields-preserved : goal.fields-preserved
fields-preserved c =
    let i = c.fields.invariant in
    let k = keep_done Label.access access_parts c.parse_field.result _ _ c.keep.new.rest
    c.in_ok-keep.field-0 _ c.parse_field.ensures.reads c.in_ok-keep.ensures in
    let s = keep_shorter c.parse_field.result _ _ c.keep.new.rest c.in_ok-keep.field-0 _
    c.parse_field.ensures.shorter c.in_ok-keep.ensures in (
      omega (arith, s, i.0),
      accesses_next head dotted field_reader field_takes _ _ (k.0 ∷ []) _ _ _ _ _ _ i.1
          (sym c.begins.ensures ∙ c.fields-test.true) k.2 refl (one_access k.0 k.1 k.3)
          (λ z. refl) k.4,
    )

pub returns-in_err-keep-clause-reads : goal.returns-in_err-keep-clause-reads
returns-in_err-keep-clause-reads c =
    rw (refused c.from_residual-in_err-keep.ensures.1) (passes _ _ _ (keep_fails Label.access
    access_parts c.parse_field.result _ _ _ _ _ c.parse_field.ensures.reads c.in_err-keep.ensures)
    (λ x r e. members_fail _ _ x r (accesses_stuck head dotted field_reader _ _ _ _ x r
    c.fields.invariant.1 (sym c.begins.ensures ∙ c.fields-test.true) e)))

pub returns-clause-reads : goal.returns-clause-reads
returns-clause-reads c =
    let i = c.fields.invariant.1 in (
      _,
      members_done _ _ _ _ (accesses_end head dotted field_reader _ _ _ _ i
          (sym c.begins.ensures ∙ c.fields-test.false)),
      operand_stands _ _ _ c.operand.result _ c.operand.ensures (row_span _ _ _ _
          (ap (λ z. record { start = c.name_primary-item.result.span.start; end = z })
          (sym (c.accesses_end-end.ensures
          ∙ ap (last_end c.name_primary-item.result.span.end) c.deref.ensures.value))) i.stands),
    )
