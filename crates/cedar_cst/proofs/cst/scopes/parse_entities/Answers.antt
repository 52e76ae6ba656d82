use Rattle.std.proofs.Common.{refl, sym, ap, subst, ◌∙◌, arith}
use Rattle.cedar_tokens.specs.Kinds.{is_ident}
use Rattle.cedar_grammar.specs.Trees.{Label, none, branch, join}
use Rattle.cedar_grammar.specs.Reader.Reading.{done}
use Rattle.cedar_grammar.specs.Reader.Lines.{entity_item}
use Rattle.cedar_grammar.specs.Erased.{expr_parts}
use Rattle.cedar_reading.specs.Reading.{flat}
use Rattle.cedar_cst.specs.ReadingItems.{StandsItems}
use Rattle.cedar_grammar.specs.NodeLists.{item_trees}
use Rattle.cedar_reading.proofs.Steps.{passes}
use Rattle.cedar_reading.proofs.Refusals.{refused}
use Rattle.cedar_reading.proofs.Manys.{flat_takes}
use Rattle.cedar_reading.proofs.Operands.{keep_done, keep_fails, keep_shorter}
use Rattle.cedar_cst.proofs.Listed.{items_next, items_last_read, items_stuck, items_end, last_item}
use Rattle.cedar_cst.proofs.cst.scopes.parse_entities.Goals as goal

pub returns-in_err-keep-clause-reads : goal.returns-in_err-keep-clause-reads
returns-in_err-keep-clause-reads c =
    rw (refused c.from_residual.ensures.1) (passes _ _ _ (keep_fails Label.expr expr_parts
    c.parse_entity_expr.result _ _ _ _ _ c.parse_entity_expr.ensures.reads c.in_err-keep.ensures)
    (λ x r e. items_stuck Label.expr expr_parts is_ident (flat entity_item) _ _ _ x r
    c.items.invariant.1 (sym c.begins_identifier.ensures ∙ c.items-test.true) e))

pub items-preserved : goal.items-preserved
items-preserved c =
    let i = c.items.invariant in
    let k = keep_done Label.expr expr_parts c.parse_entity_expr.result _ _ c.keep.new.rest
    c.in_ok-keep.field-0 _ c.parse_entity_expr.ensures.reads c.in_ok-keep.ensures in
    let s = keep_shorter c.parse_entity_expr.result _ _ c.keep.new.rest c.in_ok-keep.field-0 _
    c.parse_entity_expr.ensures.shorter c.in_ok-keep.ensures in
    let t = c.skip.ensures.shorter in
    let d = c.skip.ensures.token.2 c.if-not-skip.false in (
      omega (arith, s, t, i.0),
      items_next Label.expr expr_parts is_ident (flat entity_item) refl
          (flat_takes entity_item refl refl) _ _ _ _ _ _ k.0 k.1 d.0 i.1
          (sym c.begins_identifier.ensures ∙ c.items-test.true) k.2 k.3 d.1 d.2 k.4,
    )

pub returns-then-not-skip-clause-reads : goal.returns-then-not-skip-clause-reads
returns-then-not-skip-clause-reads c =
    let i = c.items.invariant.1 in
    let k = keep_done Label.expr expr_parts c.parse_entity_expr.result _ _ c.keep.new.rest
    c.in_ok-keep.field-0 _ c.parse_entity_expr.ensures.reads c.in_ok-keep.ensures in
    let n = c.if-not-skip.true in
    let row = join i.row (branch Label.expr k.1 none) in (
      row,
      items_last_read Label.expr expr_parts is_ident (flat entity_item) _ _ _ _ k.1 i
          (sym c.begins_identifier.ensures ∙ c.items-test.true) k.2 (sym c.skip.ensures.token.0 ∙ n)
          ∙ ap (λ z. done row z) (sym (c.skip.ensures.token.1 n)),
      subst (λ z. StandsItems (item_trees Label.expr expr_parts z) row) (sym k.4)
          (last_item Label.expr expr_parts refl _ i.row k.1 k.0 i.stands k.3),
    )

pub returns-clause-reads : goal.returns-clause-reads
returns-clause-reads c =
    let i = c.items.invariant.1 in (
      i.row,
      items_end Label.expr expr_parts is_ident (flat entity_item) _ _ _ i
          (sym c.begins_identifier.ensures ∙ c.items-test.false),
      i.stands.closed,
    )
