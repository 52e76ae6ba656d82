use Rattle.std.specs.Prelude.{◌≡◌, ◌||◌, ◌-◌, suc, true, Ok, box_value, codes}
use Rattle.std.proofs.Common.{refl, sym, ap, ◌∙◌, arith, subst}
use Rattle.cedar_tokens.specs.declared.kind.Kind.TheVariants as K
use Rattle.cedar_tokens.specs.Kinds.{is, is_ident, is_comparison}
use Rattle.cedar_grammar.specs.Trees.{Label, none, branch, join}
use Rattle.cedar_grammar.specs.Reader.Reading.{done, stuck, tree, token}
use Rattle.cedar_grammar.specs.Reader.Rules.{expr_first, items, inner}
use Rattle.cedar_grammar.specs.Reader.Lines.{maybe, path, init, item, call, access_rule, member_rule, unary_rule, mult_rule, relation_rule, and_rule, or_rule, expr_rule, expr_to}
use Rattle.cedar_grammar.proofs.Readers.Equations.{tree_fails, both_fails}
use Rattle.cedar_grammar.specs.Erased.{addop_text, expr_parts, or_parts, relation_parts, add_parts, mult_parts, unary_parts, access_parts, primary_parts}
use Rattle.cedar_reading.specs.Reading.{kind, flat, addop_kind, relop_kind, first_place}
use Rattle.cedar_reading.specs.ReadingParts.{key_rule, Makes, TellsVariable}
use Rattle.cedar_cst.specs.ReadingItems.{StandsItems, IsListOf}
use Rattle.cedar_grammar.specs.NodeLists.{and_parts, init_parts, item_trees}
use Rattle.cedar_cst.specs.ReadingExprs.{at_depth, if_rule, bracket_rule, IsParensOf, IsRecordOf}
use Rattle.cedar_grammar.specs.declared.tree.MultOp.{MultOp}
use Rattle.cedar_cst.specs.Boxed.{unboxed, signed}
use Rattle.cedar_reading.proofs.Steps.{passes, fails_as, gives_as, is_itself, first_begins, token_at, token_not}
use Rattle.cedar_reading.proofs.Refusals.{refused}
use Rattle.cedar_reading.proofs.Rows.{row_parts, row_span}
use Rattle.cedar_cst.proofs.Chains.{plain_operand, signed_operand, kept_shorter, addop_between, addop_begins, operand_kept, operand_fails, operands_first, operands_next, operands_stuck, operands_done}
use Rattle.cedar_reading.proofs.Operands.{keep_done, keep_fails, keep_shorter, gives_after, accesses_first, accesses_end}
use Rattle.cedar_cst.proofs.Members.{member_plain, member_called, member_fails, member_call_fails}
use Rattle.cedar_cst.proofs.Listed.{items_first, items_next, items_last_read, items_stuck, items_end, last_item}
use Rattle.cedar_cst.proofs.Bracketed.{square, round, curly, enclosed_reader, enclosed_gives, primary_gives, access_gives}
use Rattle.cedar_cst.proofs.Relations.{relation_fails, compared_gives, word_gives, type_gives, lone_gives, has_reads, like_reads, is_reads, none_reads}
use Rattle.cedar_cst.proofs.Nesting.{depth_back, if_deep, if_reads, or_reads, call_deep, call_reads, item_word, item_literal, bracket_deep, bracket_reads, round_reads, square_reads, curly_reads}
use Rattle.cedar_cst.proofs.Branches.{if_test_fails, if_yes_fails, if_no_fails, if_gives, parens_gives, init_fails, init_gives, type_fails, type_alone, type_in}
use Rattle.cedar_cst.proofs.Primaries.{add_at, compared_at, has_at, like_at, type_at, begins_turn, has_between, like_between, expr_takes, one_begins, one_first, call_stuck, brackets_none, or_gives, signed_gives, item_as, lone_gives as item_gives, uncalled_gives}
use Rattle.cedar_cst.proofs.Unaries.{unary_gives}
use Rattle.cedar_cst.proofs.References.{reference_fails, reference_entity, reference_called, reference_variable, reference_stops, call_refuses}
use Rattle.cedar_cst.proofs.Depths.{depth_takes, expr_at}
use Rattle.cedar_cst.proofs.expressions.+parser.Goals as goal

pub parse_or-operands-init : goal.parse_or-operands-init
parse_or-operands-init _ c =
    let h = c.in_ok-first.ensures.reads in (
      c.in_ok-first.ensures.shorter,
      operands_first Label.and and_parts (λ _. codes "||") (λ n. n) Label.or (is K.Or)
          (at_depth c.args.depth and_rule) refl c.in_ok-first.first.value _ _ _ h.0 h.1 h.2
          c.new-extended.ensures.items,
    )

pub parse_or-operands-preserved : goal.parse_or-operands-preserved
parse_or-operands-preserved _ c =
    let i = c.operands.invariant in
    let d = c.in-Some.ensures.token in
    let g = plain_operand Label.and and_parts
    (unboxed c.parse_and-in-Some.result) _ c.parse_and-in-Some.ensures.reads in
    let y = operand_kept Label.and and_parts (λ _. codes "||") (λ n. n) (λ n. Unit {0}) (unboxed
    c.parse_and-in-Some.result) _ _ c.keep_boxed.new.rest c.in-Ok.field-0 _ g c.in-Ok.ensures in
    let s = kept_shorter (λ b. box_value b) c.parse_and-in-Some.result _ _ c.keep_boxed.new.rest
    c.in-Ok.field-0 _ c.parse_and-in-Some.ensures.shorter c.in-Ok.ensures in
    let b = c.in-Some.ensures.shorter in (
      omega (arith, s, b, i.0),
      operands_next Label.and and_parts (λ _. codes "||") (λ n. n) Label.or (is K.Or)
          (at_depth c.args.depth and_rule) refl (depth_takes c.args.depth and_rule refl refl) _ _ _
          _ _ _ _ d.0 K.Or y.0 y.1 i.1 d.1 d.2 refl
          (record { comma = refl; fixed = refl; closing = refl; shows = refl }) y.2 y.3 y.5,
    )

pub parse_or-returns-in-Err-clause-reads : goal.parse_or-returns-in-Err-clause-reads
parse_or-returns-in-Err-clause-reads _ c =
    let d = c.in-Some.ensures.token in
    let g = plain_operand Label.and and_parts
    (unboxed c.parse_and-in-Some.result) _ c.parse_and-in-Some.ensures.reads in
    (passes _ _ _ (operand_fails Label.and and_parts (λ _. codes "||") (λ n. n) (λ n. Unit {0})
    (unboxed c.parse_and-in-Some.result) _ _ _ _ _ g c.in-Err.ensures)
    (λ x r e. operands_stuck Label.and and_parts (λ _. codes "||") (λ n. n) Label.or (is K.Or)
    (at_depth c.args.depth and_rule) _ _ _ _ _ d.0 K.Or x r c.operands.invariant.1 d.1 d.2 refl e))

pub parse_or-returns-clause-reads : goal.parse_or-returns-clause-reads
parse_or-returns-clause-reads _ c = operands_done Label.and and_parts (λ _. codes "||") (λ n. n)
    Label.or (is K.Or) (at_depth c.args.depth and_rule) or_parts _ _ c.in_ok-or_node.field-0.value _
    _ c.operands.invariant.1 c.in_default.ensures.token c.in_ok-or_node.ensures

pub parse_and-operands-init : goal.parse_and-operands-init
parse_and-operands-init _ c =
    let h = c.in_ok-first.ensures.reads in (
      c.in_ok-first.ensures.shorter,
      operands_first Label.relation relation_parts (λ _. codes "&&") (λ n. n) Label.and (is K.And)
          (at_depth c.args.depth relation_rule) refl c.in_ok-first.first.value _ _ _ h.0 h.1 h.2
          c.new-extended.ensures.items,
    )

pub parse_and-operands-preserved : goal.parse_and-operands-preserved
parse_and-operands-preserved _ c =
    let i = c.operands.invariant in
    let d = c.in-Some.ensures.token in
    let g = plain_operand Label.relation relation_parts
    (unboxed c.parse_relation-in-Some.result) _ c.parse_relation-in-Some.ensures.reads in
    let y = operand_kept Label.relation relation_parts (λ _. codes "&&") (λ n. n) (λ n. Unit {0})
    (unboxed c.parse_relation-in-Some.result) _ _ c.keep_boxed.new.rest c.in-Ok.field-0 _ g
    c.in-Ok.ensures in
    let s =
    kept_shorter (λ b. box_value b) c.parse_relation-in-Some.result _ _ c.keep_boxed.new.rest
    c.in-Ok.field-0 _ c.parse_relation-in-Some.ensures.shorter c.in-Ok.ensures in
    let b = c.in-Some.ensures.shorter in (
      omega (arith, s, b, i.0),
      operands_next Label.relation relation_parts (λ _. codes "&&") (λ n. n) Label.and (is K.And)
          (at_depth c.args.depth relation_rule) refl (depth_takes c.args.depth relation_rule refl
          refl) _ _ _ _ _ _ _ d.0 K.And y.0 y.1 i.1 d.1 d.2 refl
          (record { comma = refl; fixed = refl; closing = refl; shows = refl }) y.2 y.3 y.5,
    )

pub parse_and-returns-in-Err-clause-reads : goal.parse_and-returns-in-Err-clause-reads
parse_and-returns-in-Err-clause-reads _ c =
    let d = c.in-Some.ensures.token in
    let g = plain_operand Label.relation relation_parts
    (unboxed c.parse_relation-in-Some.result) _ c.parse_relation-in-Some.ensures.reads in
    (passes _ _ _ (operand_fails Label.relation relation_parts (λ _. codes "&&") (λ n. n)
    (λ n. Unit {0}) (unboxed c.parse_relation-in-Some.result) _ _ _ _ _ g c.in-Err.ensures)
    (λ x r e. operands_stuck Label.relation relation_parts (λ _. codes "&&") (λ n. n) Label.and
    (is K.And) (at_depth c.args.depth relation_rule) _ _ _ _ _ d.0 K.And x r c.operands.invariant.1
    d.1 d.2 refl e))

pub parse_and-returns-clause-reads : goal.parse_and-returns-clause-reads
parse_and-returns-clause-reads _ c =
    operands_done Label.relation relation_parts (λ _. codes "&&") (λ n. n) Label.and (is K.And)
    (at_depth c.args.depth relation_rule) and_parts _ _ c.in_ok-and_node.field-0.value _ _
    c.operands.invariant.1 c.in_default.ensures.token c.in_ok-and_node.ensures

pub parse_mult-operands-init : goal.parse_mult-operands-init
parse_mult-operands-init _ c =
    let h = c.in_ok-first.ensures.reads in (
      c.in_ok-first.ensures.shorter,
      operands_first Label.unary unary_parts (λ _. codes "*") (λ x. x.1) Label.mult (is K.Mul)
          (at_depth c.args.depth unary_rule) refl c.in_ok-first.first.value _ _ _ h.0 h.1 h.2
          c.new-extended.ensures.items,
    )

pub parse_mult-operands-preserved : goal.parse_mult-operands-preserved
parse_mult-operands-preserved _ c =
    let i = c.operands.invariant in
    let d = c.in-Some.ensures.token in
    let g = signed_operand MultOp.Times Label.unary unary_parts c.parse_unary-read.result _
    c.parse_unary-read.ensures.reads in
    let y = operand_kept Label.unary unary_parts (λ _. codes "*") (λ x. x.1)
    (λ y. y.0 ≡ MultOp.Times) (signed MultOp.Times c.parse_unary-read.result) _ _
    c.keep_signed.new.rest c.in-Ok.field-0 _ g c.in-Ok.ensures in
    let s = kept_shorter (λ b. (MultOp.Times, box_value b)) c.parse_unary-read.result _ _
    c.keep_signed.new.rest c.in-Ok.field-0 _ c.parse_unary-read.ensures.shorter c.in-Ok.ensures in
    let b = c.in-Some.ensures.shorter in (
      omega (arith, s, b, i.0),
      operands_next Label.unary unary_parts (λ _. codes "*") (λ x. x.1) Label.mult (is K.Mul)
          (at_depth c.args.depth unary_rule) refl (depth_takes c.args.depth unary_rule refl refl) _
          _ _ _ _ _ _ d.0 K.Mul y.0 y.1 i.1 d.1 d.2 refl
          (record { comma = refl; fixed = refl; closing = refl; shows = refl }) y.2 y.3 y.5,
    )

pub parse_mult-returns-in-Err-clause-reads : goal.parse_mult-returns-in-Err-clause-reads
parse_mult-returns-in-Err-clause-reads _ c =
    let d = c.in-Some.ensures.token in
    let g = signed_operand MultOp.Times Label.unary unary_parts c.parse_unary-read.result _
    c.parse_unary-read.ensures.reads in
    (passes _ _ _ (operand_fails Label.unary unary_parts (λ _. codes "*") (λ x. x.1) (λ y. y.0
    ≡ MultOp.Times) (signed MultOp.Times c.parse_unary-read.result) _ _ _ _ _ g c.in-Err.ensures)
    (λ x r e. operands_stuck Label.unary unary_parts (λ _. codes "*") (λ x. x.1) Label.mult
    (is K.Mul) (at_depth c.args.depth unary_rule) _ _ _ _ _ d.0 K.Mul x r c.operands.invariant.1 d.1
    d.2 refl e))

pub parse_mult-returns-clause-reads : goal.parse_mult-returns-clause-reads
parse_mult-returns-clause-reads _ c =
    operands_done Label.unary unary_parts (λ _. codes "*") (λ x. x.1) Label.mult (is K.Mul)
    (at_depth c.args.depth unary_rule) mult_parts _ _ c.in_ok-mult_node.field-0.value _ _
    c.operands.invariant.1 c.in_default.ensures.token c.in_ok-mult_node.ensures

pub parse_add-operands-init : goal.parse_add-operands-init
parse_add-operands-init _ c =
    let h = c.in_ok-first.ensures.reads in (
      c.in_ok-first.ensures.shorter,
      operands_first Label.mult mult_parts (λ x. addop_text x.0) (λ x. x.1) Label.add
          (λ x. is K.Add x || is K.Dash x) (at_depth c.args.depth mult_rule) refl
          c.in_ok-first.first.value _ _ _ h.0 h.1 h.2 c.new-extended.ensures.items,
    )

pub parse_add-operands-preserved : goal.parse_add-operands-preserved
parse_add-operands-preserved _ c =
    let i = c.operands.invariant in
    let d = c.in-Some.ensures.reads in
    let g = signed_operand c.in-Some.op Label.mult mult_parts c.parse_mult-read.result _
    c.parse_mult-read.ensures.reads in
    let y = operand_kept Label.mult mult_parts (λ x. addop_text x.0) (λ x. x.1)
    (λ y. y.0 ≡ c.in-Some.op) (signed c.in-Some.op c.parse_mult-read.result) _ _
    c.keep_signed.new.rest c.in-Ok.field-0 _ g c.in-Ok.ensures in
    let s = kept_shorter (λ b. (c.in-Some.op, box_value b)) c.parse_mult-read.result _ _
    c.keep_signed.new.rest c.in-Ok.field-0 _ c.parse_mult-read.ensures.shorter c.in-Ok.ensures in
    let b = c.in-Some.ensures.shorter in (
      omega (arith, s, b, i.0),
      operands_next Label.mult mult_parts (λ x. addop_text x.0) (λ x. x.1) Label.add
          (λ x. is K.Add x || is K.Dash x) (at_depth c.args.depth mult_rule) refl (depth_takes
          c.args.depth mult_rule refl refl) _ _ _ _ _ _ _ d.0 (addop_kind c.in-Some.op) y.0 y.1 i.1
          d.1 d.2 (addop_begins c.in-Some.op) (rw y.4 (addop_between c.in-Some.op)) y.2 y.3 y.5,
    )

pub parse_add-returns-in-Err-clause-reads : goal.parse_add-returns-in-Err-clause-reads
parse_add-returns-in-Err-clause-reads _ c =
    let d = c.in-Some.ensures.reads in
    let g = signed_operand c.in-Some.op Label.mult mult_parts c.parse_mult-read.result _
    c.parse_mult-read.ensures.reads in
    (passes _ _ _ (operand_fails Label.mult mult_parts (λ x. addop_text x.0) (λ x. x.1) (λ y.
    y.0 ≡ c.in-Some.op) (signed c.in-Some.op c.parse_mult-read.result) _ _ _ _ _ g c.in-Err.ensures)
    (λ x r e. operands_stuck Label.mult mult_parts (λ x. addop_text x.0) (λ x. x.1) Label.add
    (λ x. is K.Add x || is K.Dash x) (at_depth c.args.depth mult_rule) _ _ _ _ _ d.0
    (addop_kind c.in-Some.op) x r c.operands.invariant.1 d.1 d.2 (addop_begins c.in-Some.op) e))

pub parse_add-returns-clause-reads : goal.parse_add-returns-clause-reads
parse_add-returns-clause-reads _ c = operands_done Label.mult mult_parts (λ x. addop_text x.0)
    (λ x. x.1) Label.add (λ x. is K.Add x || is K.Dash x)
    (at_depth c.args.depth mult_rule) add_parts _ _ c.in_ok-add_node.field-0.value _ _
    c.operands.invariant.1 c.in_default.ensures.reads c.in_ok-add_node.ensures

-- Expressions.
pub parse_expr-returns-then-begins-clause-reads : goal.parse_expr-returns-then-begins-clause-reads
parse_expr-returns-then-begins-clause-reads _ c =
    let e = depth_back c.args.depth (omega (arith, c.if-depth-eq0.false)) in
    gives_as Label.expr expr_parts c.parse_if.result _ _ c.parse_if.ensures.reads
    (subst (λ d. at_depth d expr_rule c.args.tokens.now ≡ at_depth (suc (c.args.depth - 1)) if_rule
    c.args.tokens.now) e (if_reads (c.args.depth - 1) _ (sym c.begins.ensures ∙ c.if-begins.true)))

pub parse_expr-returns-in_err-or-clause-reads : goal.parse_expr-returns-in_err-or-clause-reads
parse_expr-returns-in_err-or-clause-reads _ c = rw (refused c.from_residual.ensures.1)
    (passes _ _ _ c.in_err-or.ensures.reads (λ x r e. or_reads c.args.depth _ (sym c.begins.ensures
    ∙ c.if-begins.false) ∙ tree_fails Label.expr _ _ x r e))

pub parse_expr-returns-clause-reads : goal.parse_expr-returns-clause-reads
parse_expr-returns-clause-reads _ c =
    gives_as Label.expr expr_parts (Ok (c.or_expr.result, c.in_ok-or.rest)) _ _
    (or_gives (at_depth c.args.depth or_rule) c.in_ok-or.or.value c.or_expr.result c.in_ok-or.rest _
    c.in_ok-or.ensures.reads c.or_expr.ensures)
    (or_reads c.args.depth _ (sym c.begins.ensures ∙ c.if-begins.false))

pub parse_branch-returns-in-Some-clause-reads : goal.parse_branch-returns-in-Some-clause-reads
parse_branch-returns-in-Some-clause-reads _ c =
    let d = c.in-Some.ensures.token in
    let t = is_itself c.args.keyword d.0.kind (sym d.2) in
    gives_after c.args.keyword Label.expr expr_parts c.parse_expr.result d.0 _ _
    (at_depth c.args.depth expr_rule) (expr_to kind c.args.depth) (token_at
    (is c.args.keyword) _ d.0 _ d.1 t) d.2 c.parse_expr.ensures.reads (expr_at c.args.depth _)

pub parse_branch-returns-in-None-clause-reads : goal.parse_branch-returns-in-None-clause-reads
parse_branch-returns-in-None-clause-reads _ c =
    passes _ _ _ c.refuse.ensures
    (λ x r e. both_fails _ _ _ x r (token_not (is c.args.keyword) _ c.in-None.ensures.token ∙ e))

pub parse_if-returns-in_err-test-clause-reads : goal.parse_if-returns-in_err-test-clause-reads
parse_if-returns-in_err-test-clause-reads _ c = rw (refused c.from_residual.ensures.1)
    (passes _ _ _ c.in_err-test.ensures.reads (if_test_fails (expr_to kind c.args.depth) _))

pub parse_if-returns-in_err-yes-clause-reads : goal.parse_if-returns-in_err-yes-clause-reads
parse_if-returns-in_err-yes-clause-reads _ c =
    let g = c.in_ok-test.ensures.reads in
    rw (refused c.from_residual-in_err-yes.ensures.1) (passes _ _ _ c.in_err-yes.ensures.reads
    (λ x r e. if_yes_fails (expr_to kind c.args.depth) _ _ _ x r g.2 e))

pub parse_if-returns-in_err-no-clause-reads : goal.parse_if-returns-in_err-no-clause-reads
parse_if-returns-in_err-no-clause-reads _ c =
    let g = c.in_ok-test.ensures.reads in
    let h = c.in_ok-yes.ensures.reads in
    rw (refused c.from_residual-in_err-no.ensures.1) (passes _ _ _ c.in_err-no.ensures.reads
    (λ x r e. if_no_fails (expr_to kind c.args.depth) _ _ _ _ _ x r g.2 h.2 e))

pub parse_if-returns-clause-reads : goal.parse_if-returns-clause-reads
parse_if-returns-clause-reads _ c =
    if_gives (expr_to kind c.args.depth) _ c.in_ok-test.test c.in_ok-yes.yes c.in_ok-no.no
    c.in_ok-if_node.field-0 _ c.in_ok-test.rest c.in_ok-yes.rest c.in_ok-no.rest c.start_of.ensures
    c.in_ok-test.ensures.reads c.in_ok-yes.ensures.reads c.in_ok-no.ensures.reads
    c.in_ok-if_node.ensures

-- Relations.
pub parse_relation-returns-in_err-target-clause-reads :
    goal.parse_relation-returns-in_err-target-clause-reads
parse_relation-returns-in_err-target-clause-reads _ c = rw (refused c.from_residual.ensures.1)
    (passes _ _ _ c.in_err-target.ensures.reads (relation_fails (add_at c.args.depth)
    (compared_at c.args.depth) has_at like_at (type_at c.args.depth) _))

pub parse_relation-returns-then-begins_comparison-clause-reads :
    goal.parse_relation-returns-then-begins_comparison-clause-reads
parse_relation-returns-then-begins_comparison-clause-reads _ c =
    let h = c.in_ok-target.ensures.reads in
    compared_gives (add_at c.args.depth) (compared_at c.args.depth) has_at like_at
    (type_at c.args.depth) _ _ c.in_ok-target.target h.0 h.1 h.2 c.parse_compared.result
    c.compared_node.result (sym c.begins_comparison.ensures ∙ c.if-begins_comparison.true)
    c.parse_compared.ensures.reads c.compared_node.ensures.passes c.compared_node.ensures.made

pub parse_relation-returns-then-begins-clause-reads :
    goal.parse_relation-returns-then-begins-clause-reads
parse_relation-returns-then-begins-clause-reads _ c =
    let h = c.in_ok-target.ensures.reads in
    word_gives (add_at c.args.depth) (compared_at c.args.depth) has_at like_at
    (type_at c.args.depth) _ _ c.in_ok-target.target h.0 h.1 h.2 K.Has
    (codes "has") has_at c.has_node.ensures.reads.0 c.has_node.result has_between
    (has_reads (add_at c.args.depth) (compared_at c.args.depth) has_at like_at
    (type_at c.args.depth) _ (sym c.begins_comparison.ensures ∙ c.if-begins_comparison.false)
    (sym c.begins.ensures ∙ c.if-begins.true))
    c.has_node.ensures.reads.1 c.has_node.ensures.reads.2 c.has_node.ensures.reads.3

pub parse_relation-returns-then-begins-2-clause-reads :
    goal.parse_relation-returns-then-begins-2-clause-reads
parse_relation-returns-then-begins-2-clause-reads _ c =
    let h = c.in_ok-target.ensures.reads in
    word_gives (add_at c.args.depth) (compared_at c.args.depth) has_at like_at
    (type_at c.args.depth) _ _ c.in_ok-target.target h.0 h.1 h.2 K.Like
    (codes "like") like_at c.like_node.ensures.reads.0 c.like_node.result like_between
    (like_reads (add_at c.args.depth) (compared_at c.args.depth) has_at like_at
    (type_at c.args.depth) _ (sym c.begins_comparison.ensures ∙ c.if-begins_comparison.false)
    (sym c.begins.ensures ∙ c.if-begins.false) (sym c.begins-2.ensures ∙ c.if-begins-2.true))
    c.like_node.ensures.reads.1 c.like_node.ensures.reads.2 c.like_node.ensures.reads.3

pub parse_relation-returns-then-begins-3-clause-reads :
    goal.parse_relation-returns-then-begins-3-clause-reads
parse_relation-returns-then-begins-3-clause-reads _ c =
    let h = c.in_ok-target.ensures.reads in
    type_gives (add_at c.args.depth) (compared_at c.args.depth) has_at like_at (type_at
    c.args.depth) _ _ c.in_ok-target.target h.0 h.1 h.2 c.parse_type_test.result c.is_node.result
    (is_reads (add_at c.args.depth) (compared_at c.args.depth) has_at like_at
    (type_at c.args.depth) _ (sym c.begins_comparison.ensures ∙ c.if-begins_comparison.false)
    (sym c.begins.ensures ∙ c.if-begins.false) (sym c.begins-2.ensures ∙ c.if-begins-2.false)
    (sym c.begins-3.ensures ∙ c.if-begins-3.true))
    c.parse_type_test.ensures.reads c.is_node.ensures.passes c.is_node.ensures.made

pub parse_relation-returns-clause-reads : goal.parse_relation-returns-clause-reads
parse_relation-returns-clause-reads _ c =
    let h = c.in_ok-target.ensures.reads in
    lone_gives (add_at c.args.depth) (compared_at c.args.depth) has_at like_at
    (type_at c.args.depth) _ _ c.in_ok-target.target h.0 h.1 h.2 c.in_ok-lone_relation.field-0
    c.in_ok-target.rest refl
    (none_reads (add_at c.args.depth) (compared_at c.args.depth) has_at like_at
    (type_at c.args.depth) _ (sym c.begins_comparison.ensures ∙ c.if-begins_comparison.false)
    (sym c.begins.ensures ∙ c.if-begins.false) (sym c.begins-2.ensures ∙ c.if-begins-2.false)
    (sym c.begins-3.ensures ∙ c.if-begins-3.false))
    c.in_ok-lone_relation.ensures

pub parse_compared-returns-clause-reads : goal.parse_compared-returns-clause-reads
parse_compared-returns-clause-reads _ c =
    let h = c.in_ok-op.ensures.reads in
    signed_gives relop_kind (token kind is_comparison)
    (add_at c.args.depth) Label.add add_parts c.in_ok-op.op h.0 _ _ c.parse_add.result
    c.beside.result h.1 h.2 c.parse_add.ensures.reads c.beside.ensures.passes c.beside.ensures.made

pub parse_type_test-returns-in_err-entity_type-clause-reads :
    goal.parse_type_test-returns-in_err-entity_type-clause-reads
parse_type_test-returns-in_err-entity_type-clause-reads _ c =
    rw (refused c.from_residual-in_err-entity_type.ensures.1)
    (passes _ _ _ c.in_err-entity_type.ensures.reads (λ x r e.
    type_fails (flat path) (add_at c.args.depth) _ _ _ x r c.in_ok-rest.ensures.reads.0 e))

pub parse_type_test-returns-in-Some-clause-reads : goal.parse_type_test-returns-in-Some-clause-reads
parse_type_test-returns-in-Some-clause-reads _ c =
    let o = c.in_ok-rest.ensures.reads in
    let h = c.in_ok-entity_type.ensures.reads in
    let d = c.in-Some.ensures.token in
    type_in (flat path) (add_at c.args.depth) _ _ _ o.0 o.1 c.in_ok-entity_type.entity_type h.0 _
    h.1 h.2 d.0 _ c.parse_add.result c.type_and_operand.result d.1 d.2 c.parse_add.ensures.reads
    c.type_and_operand.ensures.passes c.type_and_operand.ensures.made

pub parse_type_test-returns-in-None-clause-reads : goal.parse_type_test-returns-in-None-clause-reads
parse_type_test-returns-in-None-clause-reads _ c =
    let o = c.in_ok-rest.ensures.reads in
    let h = c.in_ok-entity_type.ensures.reads in
    type_alone (flat path) (add_at c.args.depth) _ _ _ o.0 o.1 c.in_ok-entity_type.entity_type h.0 _
    h.1 h.2 c.in_ok-entity_type.rest refl c.in-None.ensures.token

-- Members.
pub parse_member-accesses-init : goal.parse_member-accesses-init
parse_member-accesses-init _ c =
    let h = c.in_ok-item.ensures.reads in (
      c.in_ok-item.ensures.shorter,
      accesses_first (at_depth c.args.depth item) begins_turn
          (at_depth c.args.depth access_rule) c.in_ok-item.item.value _ _ _ h.0 h.1 h.2,
    )

-- Calls and brackets.
pub parse_call-returns-in_err-open-clause-reads : goal.parse_call-returns-in_err-open-clause-reads
parse_call-returns-in_err-open-clause-reads _ c = rw (refused c.from_residual.ensures.1)
    (passes _ _ _ c.in_err-open.ensures.reads (call_stuck c.args.depth _))

pub parse_call-returns-clause-reads : goal.parse_call-returns-clause-reads
parse_call-returns-clause-reads _ c =
    let h = c.in_ok-open.ensures.reads in
    let e = depth_back c.args.depth (omega (arith, c.if-depth-eq0.false)) in
    let P = at_depth (suc (c.args.depth - 1)) (maybe (items inner)) in
    let g = enclosed_gives Label.expr expr_parts (codes "(")
    (codes ")") K.LParen K.RParen round P c.parse_exprs-read.result c.followed_by.result _ _
    c.in_ok-open.open h.0 h.1 c.parse_exprs-read.ensures.reads c.followed_by.ensures.reads in
    gives_as Label.access access_parts c.call_node.result _ _
    (access_gives Label.expr expr_parts (codes "(") (codes ")")
    (enclosed_reader Label.expr expr_parts (codes "(") (codes ")") K.LParen K.RParen round P) _
    c.followed_by.result c.call_node.result _ g c.call_node.ensures.passes c.call_node.ensures.made)
    (subst (λ d. at_depth d call c.args.tokens.now ≡ tree Label.access (enclosed_reader Label.expr
    expr_parts (codes "(") (codes ")") K.LParen K.RParen round P) c.args.tokens.now) e
    (call_reads (c.args.depth - 1) _ (one_begins K.LParen _ _ _ h.0)))

-- Items.
pub parse_item-returns-then-begins_identifier-clause-reads :
    goal.parse_item-returns-then-begins_identifier-clause-reads
parse_item-returns-then-begins_identifier-clause-reads _ c =
    item_as c.parse_reference.result _ _ c.parse_reference.ensures.reads (item_word c.args.depth
    c.args.tokens.now (sym c.begins_identifier.ensures ∙ c.if-begins_identifier.true))

pub parse_item-returns-then-not-begins_bracket-clause-reads :
    goal.parse_item-returns-then-not-begins_bracket-clause-reads
parse_item-returns-then-not-begins_bracket-clause-reads _ c =
    let h =
    brackets_none c.args.tokens.now (sym c.begins_bracket.ensures ∙ c.if-not-begins_bracket.true) in
    item_as c.literal_item.result _ _ c.literal_item.ensures.reads
    (item_literal c.args.depth c.args.tokens.now
    (sym c.begins_identifier.ensures ∙ c.if-begins_identifier.false) h.0 h.1 h.2)

pub parse_item-returns-clause-reads : goal.parse_item-returns-clause-reads
parse_item-returns-clause-reads _ c =
    let e = depth_back c.args.depth (omega (arith, c.if-depth-eq0.false)) in
    item_as c.uncalled.result _ _ (uncalled_gives c.parse_bracket.result c.uncalled.result _
    c.parse_bracket.ensures.reads c.uncalled.ensures.passes c.uncalled.ensures.made)
    (subst (λ d. at_depth d item c.args.tokens.now ≡ at_depth (suc (c.args.depth - 1)) bracket_rule
    c.args.tokens.now) e (bracket_reads (c.args.depth - 1) c.args.tokens.now
    (sym c.begins_bracket.ensures ∙ c.if-not-begins_bracket.false)))

-- Brackets.
pub parse_bracket-returns-in-Some-clause-reads : goal.parse_bracket-returns-in-Some-clause-reads
parse_bracket-returns-in-Some-clause-reads _ c =
    let d = c.in-Some.ensures.token in
    let t = is_itself K.LParen d.0.kind (sym d.2) in
    let m = c.parens_node.ensures.made in
    gives_as Label.primary primary_parts (unboxed c.parens_node.result) _ _
    (parens_gives (expr_to kind c.args.depth) c.parse_expr.result m.0 c.parens_node.result _ _ d.0
    (token_at (is K.LParen) _ d.0 _ d.1 t) d.2
    (gives_as Label.expr expr_parts c.parse_expr.result _ _ c.parse_expr.ensures.reads
    (expr_at c.args.depth _)) m.1 m.2 (subst (λ z. Makes (IsParensOf z) m.0 c.parens_node.result)
    (c.start_of-start.ensures ∙ ap first_place d.1) m.3))
    (round_reads c.args.depth _ (first_begins (is K.LParen) _ d.0 _ d.1 ∙ t))

pub parse_bracket-returns-in-Some-past-clause-reads :
    goal.parse_bracket-returns-in-Some-past-clause-reads
parse_bracket-returns-in-Some-past-clause-reads _ c =
    let d = c.in-Some-past.ensures.token in
    let t = is_itself K.LBracket d.0.kind (sym d.2) in
    let m = c.list_node.ensures.made in
    let P = at_depth (suc c.args.depth) (maybe (items inner)) in
    let Q =
    enclosed_reader Label.expr expr_parts (codes "[") (codes "]") K.LBracket K.RBracket square P in
    let g = enclosed_gives Label.expr expr_parts (codes "[")
    (codes "]") K.LBracket K.RBracket square P c.parse_exprs.result m.0 _ _ d.0
    (token_at (is K.LBracket) _ d.0 _ d.1 t) d.2 c.parse_exprs.ensures.reads m.1 in
    gives_as Label.primary primary_parts (unboxed c.list_node.result) _ _
    (primary_gives Label.expr expr_parts (codes "[") (codes "]") Label.list refl Q _ m.0
    c.list_node.result _ g m.2 (subst (λ z. Makes (IsListOf z) m.0 c.list_node.result)
    (c.start_of-start.ensures ∙ ap first_place d.1) m.3))
    (square_reads c.args.depth _ c.in_default.ensures.token
    (first_begins (is K.LBracket) _ d.0 _ d.1 ∙ t))

pub parse_bracket-returns-in_err-rest-clause-reads :
    goal.parse_bracket-returns-in_err-rest-clause-reads
parse_bracket-returns-in_err-rest-clause-reads _ c =
    rw (refused c.from_residual.ensures.1) (passes _ _ _ c.in_err-rest.ensures.reads
    (λ x r e. curly_reads c.args.depth _ c.in_default.ensures.token c.in_default-past.ensures.token
    ∙ tree_fails Label.primary _ _ x r (tree_fails Label.fields _ _ x r (both_fails _ _ _ x r e))))

pub parse_bracket-returns-clause-reads : goal.parse_bracket-returns-clause-reads
parse_bracket-returns-clause-reads _ c =
    let h = c.in_ok-rest.ensures.reads in
    let m = c.record_node.ensures.made in
    let P = at_depth (suc c.args.depth) (maybe (items init)) in
    let Q =
    enclosed_reader Label.rec_init init_parts (codes "{") (codes "}") K.LBrace K.RBrace curly P in
    let g = enclosed_gives Label.rec_init init_parts (codes "{") (codes "}") K.LBrace K.RBrace curly
    P c.parse_inits.result m.0 _ _ c.in_ok-rest.field-0-0 h.0 h.1 c.parse_inits.ensures.reads m.1 in
    gives_as Label.primary primary_parts (unboxed c.record_node.result) _ _
    (primary_gives Label.rec_init init_parts (codes "{") (codes "}") Label.fields refl Q _ m.0
    c.record_node.result _ g m.2 (subst (λ z. Makes (IsRecordOf z) m.0 c.record_node.result)
    (c.start_of-start.ensures ∙ one_first K.LBrace _ _ _ h.0) m.3))
    (curly_reads c.args.depth _ c.in_default.ensures.token c.in_default-past.ensures.token)

-- Entries of records.
pub parse_init-returns-in_err-key-clause-reads : goal.parse_init-returns-in_err-key-clause-reads
parse_init-returns-in_err-key-clause-reads _ c = rw (refused c.from_residual.ensures.1) (passes _ _
    _ c.in_err-key.ensures.reads (init_fails (expr_to kind c.args.depth) (flat key_rule) _))

pub parse_init-returns-clause-reads : goal.parse_init-returns-clause-reads
parse_init-returns-clause-reads _ c =
    let h = c.in_ok-key.ensures.reads in
    init_gives (expr_to kind c.args.depth)
    (flat key_rule) c.in_ok-key.key h.0 h.1 _ _ c.parse_expr.result c.init_node.result h.2 h.3 h.4
    (gives_as Label.expr expr_parts c.parse_expr.result _ _ c.parse_expr.ensures.reads
    (expr_at c.args.depth _)) c.init_node.ensures.passes
    c.init_node.ensures.made

pub parse_exprs-items-init : goal.parse_exprs-items-init
parse_exprs-items-init _ c = (
  omega arith,
  items_first Label.expr expr_parts expr_first
      (expr_to kind c.args.depth) _ _ c.new-items.ensures.items,
)

pub parse_exprs-items-preserved : goal.parse_exprs-items-preserved
parse_exprs-items-preserved _ c =
    let i = c.items.invariant in
    let g = (gives_as Label.expr expr_parts c.parse_expr.result _ _ c.parse_expr.ensures.reads
    (expr_at c.args.depth _)) in
    let k = keep_done Label.expr expr_parts c.parse_expr.result _ _ c.keep.new.rest
    c.in_ok-keep.field-0 _ g c.in_ok-keep.ensures in
    let s = keep_shorter c.parse_expr.result _ _ c.keep.new.rest c.in_ok-keep.field-0 _
    c.parse_expr.ensures.shorter c.in_ok-keep.ensures in
    let t = c.skip.ensures.shorter in
    let d = c.skip.ensures.token.2 c.if-not-skip.false in (
      omega (arith, s, t, i.0),
      items_next Label.expr expr_parts expr_first (expr_to kind c.args.depth) refl
          (expr_takes c.args.depth) _ _ _ _ _ _ k.0 k.1 d.0 i.1
          (sym c.begins_expression.ensures ∙ c.items-test.true) k.2 k.3 d.1 d.2 k.4,
    )

pub parse_exprs-returns-in_err-keep-clause-reads : goal.parse_exprs-returns-in_err-keep-clause-reads
parse_exprs-returns-in_err-keep-clause-reads _ c =
    let g = (gives_as Label.expr expr_parts c.parse_expr.result _ _ c.parse_expr.ensures.reads
    (expr_at c.args.depth _)) in
    rw (refused c.from_residual.ensures.1) (passes _ _ _
    (keep_fails Label.expr expr_parts c.parse_expr.result _ _ _ _ _ g c.in_err-keep.ensures)
    (λ x r e. items_stuck Label.expr expr_parts expr_first (expr_to kind c.args.depth) _ _ _ x r
    c.items.invariant.1 (sym c.begins_expression.ensures ∙ c.items-test.true) e))

pub parse_exprs-returns-then-not-skip-clause-reads :
    goal.parse_exprs-returns-then-not-skip-clause-reads
parse_exprs-returns-then-not-skip-clause-reads _ c =
    let i = c.items.invariant.1 in
    let g = (gives_as Label.expr expr_parts c.parse_expr.result _ _ c.parse_expr.ensures.reads
    (expr_at c.args.depth _)) in
    let k = keep_done Label.expr expr_parts c.parse_expr.result _ _ c.keep.new.rest
    c.in_ok-keep.field-0 _ g c.in_ok-keep.ensures in
    let n = c.if-not-skip.true in
    let row = join i.row (branch Label.expr k.1 none) in (
      row,
      items_last_read Label.expr expr_parts expr_first (expr_to kind c.args.depth) _ _ _ _ k.1 i
          (sym c.begins_expression.ensures ∙ c.items-test.true) k.2 (sym c.skip.ensures.token.0 ∙ n)
          ∙ ap (λ z. done row z) (sym (c.skip.ensures.token.1 n)),
      subst (λ z. StandsItems (item_trees Label.expr expr_parts z) row) (sym k.4)
          (last_item Label.expr expr_parts refl _ i.row k.1 k.0 i.stands k.3),
    )

pub parse_exprs-returns-clause-reads : goal.parse_exprs-returns-clause-reads
parse_exprs-returns-clause-reads _ c =
    let i = c.items.invariant.1 in (
      i.row,
      items_end Label.expr expr_parts expr_first (expr_to kind c.args.depth) _ _ _ i
          (sym c.begins_expression.ensures ∙ c.items-test.false),
      i.stands.closed,
    )

pub parse_inits-inits-init : goal.parse_inits-inits-init
parse_inits-inits-init _ c = (
  omega arith,
  items_first Label.rec_init init_parts (λ x. is_ident x || is K.Str x)
      (at_depth (suc c.args.depth) init) _ _ c.new-inits.ensures.items,
)

pub parse_inits-inits-preserved : goal.parse_inits-inits-preserved
parse_inits-inits-preserved _ c =
    let i = c.inits.invariant in
    let g = c.parse_init.ensures.reads in
    let k = keep_done Label.rec_init init_parts (unboxed c.parse_init.result) _ _
    c.keep_boxed.new.rest c.in_ok-keep_boxed.field-0 _ g c.in_ok-keep_boxed.ensures in
    let s = kept_shorter (λ b. box_value b) c.parse_init.result _ _ c.keep_boxed.new.rest
    c.in_ok-keep_boxed.field-0 _ c.parse_init.ensures.shorter c.in_ok-keep_boxed.ensures in
    let t = c.skip.ensures.shorter in
    let d = c.skip.ensures.token.2 c.if-not-skip.false in (
      omega (arith, s, t, i.0),
      items_next Label.rec_init init_parts (λ x. is_ident x || is K.Str x) (at_depth
          (suc c.args.depth) init) refl (depth_takes (suc c.args.depth) init refl refl) _ _ _ _ _ _
          k.0 k.1 d.0 i.1 (sym c.begins_key.ensures ∙ c.inits-test.true) k.2 k.3 d.1 d.2 k.4,
    )

pub parse_inits-returns-in_err-keep_boxed-clause-reads :
    goal.parse_inits-returns-in_err-keep_boxed-clause-reads
parse_inits-returns-in_err-keep_boxed-clause-reads _ c =
    let g = c.parse_init.ensures.reads in
    rw (refused c.from_residual.ensures.1) (passes _ _ _ (keep_fails Label.rec_init init_parts
    (unboxed c.parse_init.result) _ _ _ _ _ g c.in_err-keep_boxed.ensures)
    (λ x r e. items_stuck Label.rec_init init_parts (λ x. is_ident x || is K.Str x)
    (at_depth (suc c.args.depth) init) _ _ _ x r c.inits.invariant.1
    (sym c.begins_key.ensures ∙ c.inits-test.true) e))

pub parse_inits-returns-then-not-skip-clause-reads :
    goal.parse_inits-returns-then-not-skip-clause-reads
parse_inits-returns-then-not-skip-clause-reads _ c =
    let i = c.inits.invariant.1 in
    let g = c.parse_init.ensures.reads in
    let k = keep_done Label.rec_init init_parts (unboxed c.parse_init.result) _ _
    c.keep_boxed.new.rest c.in_ok-keep_boxed.field-0 _ g c.in_ok-keep_boxed.ensures in
    let n = c.if-not-skip.true in
    let row = join i.row (branch Label.rec_init k.1 none) in (
      row,
      items_last_read Label.rec_init init_parts (λ x. is_ident x || is K.Str x) (at_depth
          (suc c.args.depth) init) _ _ _ _ k.1 i (sym c.begins_key.ensures ∙ c.inits-test.true) k.2
          (sym c.skip.ensures.token.0 ∙ n) ∙ ap (λ z. done row z) (sym (c.skip.ensures.token.1 n)),
      subst (λ z. StandsItems (item_trees Label.rec_init init_parts z) row) (sym k.4)
          (last_item Label.rec_init init_parts refl _ i.row k.1 k.0 i.stands k.3),
    )

pub parse_inits-returns-clause-reads : goal.parse_inits-returns-clause-reads
parse_inits-returns-clause-reads _ c =
    let i = c.inits.invariant.1 in (
      i.row,
      items_end Label.rec_init init_parts (λ x. is_ident x || is K.Str x) (at_depth
          (suc c.args.depth) init) _ _ _ i (sym c.begins_key.ensures ∙ c.inits-test.false),
      i.stands.closed,
    )

-- Members after signs.
pub parse_unary-returns-clause-reads : goal.parse_unary-returns-clause-reads
parse_unary-returns-clause-reads _ c =
    unary_gives (at_depth c.args.depth member_rule) _ c.read_signs-op.result.0
    c.read_signs-op.result.1 c.parse_member.result c.unary_node.result c.read_signs-op.ensures.reads
    c.parse_member.ensures.reads c.unary_node.ensures.passes c.unary_node.ensures.made

-- References.
pub parse_reference-returns-in_err-name-clause-reads :
    goal.parse_reference-returns-in_err-name-clause-reads
parse_reference-returns-in_err-name-clause-reads _ c = rw (refused c.from_residual.ensures.1)
    (reference_fails (at_depth c.args.depth call) _ _ c.in_err-name.ensures.reads)

pub parse_member-accesses-preserved : goal.parse_member-accesses-preserved
parse_member-accesses-preserved _ c =
    let i = c.accesses.invariant in
    let k = keep_done Label.access access_parts c.parse_access.result _ _ c.keep.new.rest
    c.in_ok-keep.field-0 _ c.parse_access.ensures.reads c.in_ok-keep.ensures in
    let s = keep_shorter c.parse_access.result _ _ c.keep.new.rest c.in_ok-keep.field-0 _
    c.parse_access.ensures.shorter c.in_ok-keep.ensures in (
      omega (arith, s, i.0),
      member_plain c.args.depth _ _ _ _ _ _ _ k.0 k.1 i.1
          (sym c.begins_access.ensures ∙ c.accesses-test.true) c.begins-callable.ensures k.2 k.3 k.4
          (sym c.begins_call.ensures ∙ c.if-begins_call.false),
    )

pub parse_member-accesses-preserved-in_ok-keep-2 : goal.parse_member-accesses-preserved-in_ok-keep-2
parse_member-accesses-preserved-in_ok-keep-2 _ c =
    let i = c.accesses.invariant in
    let k = keep_done Label.access access_parts c.parse_access.result _ _ c.keep.new.rest
    c.in_ok-keep.field-0 _ c.parse_access.ensures.reads c.in_ok-keep.ensures in
    let s = keep_shorter c.parse_access.result _ _ c.keep.new.rest c.in_ok-keep.field-0 _
    c.parse_access.ensures.shorter c.in_ok-keep.ensures in
    let m =
    keep_done Label.access access_parts c.parse_call.result _ _ c.keep-then-begins_call.new.rest
    c.in_ok-keep-2.field-0 _ c.parse_call.ensures.reads c.in_ok-keep-2.ensures in
    let u = keep_shorter c.parse_call.result _ _ c.keep-then-begins_call.new.rest
    c.in_ok-keep-2.field-0 _ c.parse_call.ensures.shorter c.in_ok-keep-2.ensures in (
      omega (arith, s, u, i.0),
      member_called c.args.depth _ _ _ _ _ _ _ _ _ k.0 m.0 k.1 m.1 i.1
          (sym c.begins_access.ensures ∙ c.accesses-test.true) c.begins-callable.ensures k.2 k.3 k.4
          (sym c.begins_call.ensures ∙ c.if-begins_call.true) m.2 m.3 m.4,
    )

pub parse_member-returns-in_err-keep-clause-reads :
    goal.parse_member-returns-in_err-keep-clause-reads
parse_member-returns-in_err-keep-clause-reads _ c =
    rw (refused c.from_residual-in_err-keep.ensures.1) (passes _ _ _ (keep_fails Label.access
    access_parts c.parse_access.result _ _ _ _ _ c.parse_access.ensures.reads c.in_err-keep.ensures)
    (λ x r e. member_fails c.args.depth _ _ _ _ x r c.accesses.invariant.1
    (sym c.begins_access.ensures ∙ c.accesses-test.true) e))

pub parse_member-returns-in_err-keep-2-clause-reads :
    goal.parse_member-returns-in_err-keep-2-clause-reads
parse_member-returns-in_err-keep-2-clause-reads _ c =
    let k = keep_done Label.access access_parts c.parse_access.result _ _ c.keep.new.rest
    c.in_ok-keep.field-0 _ c.parse_access.ensures.reads c.in_ok-keep.ensures in
    rw (refused c.from_residual-in_err-keep-2.ensures.1) (passes _ _ _ (keep_fails Label.access
    access_parts c.parse_call.result _ _ _ _ _ c.parse_call.ensures.reads c.in_err-keep-2.ensures)
    (λ x r e. member_call_fails c.args.depth _ _ _ _ _ _ k.1 x r c.accesses.invariant.1
    (sym c.begins_access.ensures ∙ c.accesses-test.true) c.begins-callable.ensures k.2
    (sym c.begins_call.ensures ∙ c.if-begins_call.true) e))

pub parse_member-returns-clause-reads : goal.parse_member-returns-clause-reads
parse_member-returns-clause-reads _ c =
    let i = c.accesses.invariant.1 in
    let h = c.in_ok-member_node.ensures in (
      i.row,
      accesses_end (at_depth c.args.depth item) begins_turn (at_depth c.args.depth access_rule) _ _
          _ _ i (sym c.begins_access.ensures ∙ c.accesses-test.false),
      row_span _ _ _ _ (sym h.1) (row_parts _ _ _ _ h.0 i.stands),
    )

pub parse_reference-returns-in-Some-clause-reads : goal.parse_reference-returns-in-Some-clause-reads
parse_reference-returns-in-Some-clause-reads _ c =
    item_gives c.entity_node.result c.in_ok-name.rest c.lone_item.result _ (reference_entity
    (at_depth c.args.depth call) c.in_ok-name.name _ c.in-Some.eid c.entity_node.result
    c.in_ok-name.rest _ c.in_ok-name.ensures.reads c.in-Some.is c.entity_node.ensures)
    c.lone_item.ensures

pub parse_reference-returns-then-begins-clause-reads :
    goal.parse_reference-returns-then-begins-clause-reads
parse_reference-returns-then-begins-clause-reads _ c =
    reference_called (at_depth c.args.depth call) c.in_ok-name.name _ c.in_ok-name.rest
    c.parse_call.result c.called.result _ c.in_ok-name.ensures.reads c.in_default.is
    (sym c.begins.ensures ∙ c.if-begins.true) c.parse_call.ensures.reads c.called.ensures.passes
    c.called.ensures.made

pub parse_reference-returns-then-is_lone_variable-clause-reads :
    goal.parse_reference-returns-then-is_lone_variable-clause-reads
parse_reference-returns-then-is_lone_variable-clause-reads _ c =
    let t = subst (TellsVariable c.args.tokens.now c.in_ok-name.name) c.if-is_lone_variable.true
    c.is_lone_variable.ensures in
    item_gives c.name_primary.result c.in_ok-name.rest c.lone_item-then-is_lone_variable.result _
    (reference_variable (at_depth c.args.depth call) c.in_ok-name.name _ c.name_primary.result
    c.in_ok-name.rest _ c.in_ok-name.ensures.reads c.in_default.is c.name_primary.ensures t.0 t.1
    (sym c.begins.ensures ∙ c.if-begins.false)) c.lone_item-then-is_lone_variable.ensures

pub parse_reference-returns-clause-reads : goal.parse_reference-returns-clause-reads
parse_reference-returns-clause-reads _ c =
    let t = subst (TellsVariable c.args.tokens.now c.in_ok-name.name) c.if-is_lone_variable.false
    c.is_lone_variable.ensures in
    reference_stops (at_depth c.args.depth call) (call_refuses c.args.depth) _ c.in_ok-name.name _
    c.in_ok-name.rest _ c.in_ok-name.ensures.reads c.in_default.is
    (sym c.begins.ensures ∙ c.if-begins.false) t c.refuse.ensures

-- Without room.
pub parse_expr-returns-then-depth-eq0-clause-reads :
    goal.parse_expr-returns-then-depth-eq0-clause-reads
parse_expr-returns-then-depth-eq0-clause-reads _ c =
    fails_as c.too_deep.result _ _ c.too_deep.ensures
    (subst (λ d. at_depth d expr_rule c.args.tokens.now ≡ stuck true c.args.tokens.now)
    (sym c.if-depth-eq0.true) (if_deep c.args.tokens.now (sym c.begins.ensures ∙ c.if-begins.true)))

pub parse_call-returns-then-depth-eq0-clause-reads :
    goal.parse_call-returns-then-depth-eq0-clause-reads
parse_call-returns-then-depth-eq0-clause-reads _ c =
    let h = c.in_ok-open.ensures.reads in
    fails_as c.too_deep.result _ _ c.too_deep.ensures
    (subst (λ d. at_depth d call c.args.tokens.now ≡ stuck true c.args.tokens.now)
    (sym c.if-depth-eq0.true) (call_deep c.args.tokens.now (one_begins K.LParen _ _ _ h.0)))

pub parse_item-returns-then-depth-eq0-clause-reads :
    goal.parse_item-returns-then-depth-eq0-clause-reads
parse_item-returns-then-depth-eq0-clause-reads _ c =
    fails_as c.too_deep.result _ _ c.too_deep.ensures (subst (λ d.
    at_depth d item c.args.tokens.now ≡ stuck true c.args.tokens.now) (sym c.if-depth-eq0.true)
    (bracket_deep c.args.tokens.now (sym c.begins_bracket.ensures ∙ c.if-not-begins_bracket.false)))
