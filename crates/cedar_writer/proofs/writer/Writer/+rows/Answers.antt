use Rattle.std.proofs.Common.{pos, refl, sym, ap, ◌∙◌, arith, [], ◌∷◌}
use Rattle.std.specs.Prelude.{◌||◌}
use Rattle.cedar_tokens.specs.declared.kind.Kind.TheVariants as K
use Rattle.cedar_tokens.specs.Kinds.{is}
use Rattle.cedar_print.specs.WrittenMarks as M
use Rattle.cedar_writer.specs.Rules.{inner, line, maybe, nest, star, tok, end_group, ◌▸◌}
use Rattle.cedar_writer.specs.Writing as W
use Rattle.cedar_writer.specs.Depths.{alone, at_depth, often_at}
use Rattle.cedar_writer.specs.Lines.{below, init, str}
use Rattle.cedar_writer.specs.Parts.{access, accesses, add, and, call, called, grouped_member, is_in, member, mult, next_access, next_and, next_factor, next_relation, next_summand, or, relation, relation_end, some_arguments, some_exprs, some_inits, unary}
use Rattle.cedar_writer.specs.Parts.{last_comma}
use Rattle.cedar_writer.specs.Lines.{path}
use Rattle.cedar_writer.proofs.Loops.{depth_less, depth_turn, depth_over, often_at_less, often_at_turn, often_at_over}
use Rattle.cedar_writer.proofs.Lines.{expr_by_if, expr_by_or, opened}
use Rattle.cedar_writer.proofs.writer.Writer.+rows.Goals as goal

pub expr-returns-then-begins : goal.expr-returns-then-begins
expr-returns-then-begins t c = expr_by_if c.args.indent.columns c.args.depth _ _ (sym c.begins.ensures ∙ c.if-begins.true) c.if_expr.ensures

pub expr-returns-else-begins : goal.expr-returns-else-begins
expr-returns-else-begins t c = expr_by_or c.args.indent.columns c.args.depth _ _ (sym c.begins.ensures ∙ c.if-begins.false) c.or.ensures

pub next_ands-ands-smaller : goal.next_ands-ands-smaller
next_ands-ands-smaller t c = depth_less c.args.indent.columns c.args.depth (next_and c.args.indent.columns) c.ands.self c.next_and.new.self refl (sym c.begins.ensures ∙ c.ands-test.true) c.next_and.ensures

pub next_ands-ands-preserved : goal.next_ands-ands-preserved
next_ands-ands-preserved t c = depth_turn c.args.indent.columns c.args.depth (next_and c.args.indent.columns) c.ands.self c.next_and.new.self refl (sym c.begins.ensures ∙ c.ands-test.true) c.ands.invariant c.next_and.ensures

pub next_ands-returns : goal.next_ands-returns
next_ands-returns t c = depth_over c.args.indent.columns c.args.depth (next_and c.args.indent.columns) c.ands.self (sym c.begins.ensures ∙ c.ands-test.false) c.ands.invariant

pub next_relations-relations-smaller : goal.next_relations-relations-smaller
next_relations-relations-smaller t c = depth_less c.args.indent.columns c.args.depth (next_relation c.args.indent.columns) c.relations.self c.next_relation.new.self refl (sym c.begins.ensures ∙ c.relations-test.true) c.next_relation.ensures

pub next_relations-relations-preserved : goal.next_relations-relations-preserved
next_relations-relations-preserved t c = depth_turn c.args.indent.columns c.args.depth (next_relation c.args.indent.columns) c.relations.self c.next_relation.new.self refl (sym c.begins.ensures ∙ c.relations-test.true) c.relations.invariant c.next_relation.ensures

pub next_relations-returns : goal.next_relations-returns
next_relations-returns t c = depth_over c.args.indent.columns c.args.depth (next_relation c.args.indent.columns) c.relations.self (sym c.begins.ensures ∙ c.relations-test.false) c.relations.invariant

pub next_summands-summands-smaller : goal.next_summands-summands-smaller
next_summands-summands-smaller t c = depth_less c.args.indent.columns c.args.depth (next_summand c.args.indent.columns) c.summands.self c.next_summand.new.self refl (sym c.begins.ensures ∙ c.summands-test.true) c.next_summand.ensures

pub next_summands-summands-preserved : goal.next_summands-summands-preserved
next_summands-summands-preserved t c = depth_turn c.args.indent.columns c.args.depth (next_summand c.args.indent.columns) c.summands.self c.next_summand.new.self refl (sym c.begins.ensures ∙ c.summands-test.true) c.summands.invariant c.next_summand.ensures

pub next_summands-returns : goal.next_summands-returns
next_summands-returns t c = depth_over c.args.indent.columns c.args.depth (next_summand c.args.indent.columns) c.summands.self (sym c.begins.ensures ∙ c.summands-test.false) c.summands.invariant

pub next_factors-factors-smaller : goal.next_factors-factors-smaller
next_factors-factors-smaller t c = depth_less c.args.indent.columns c.args.depth (next_factor c.args.indent.columns) c.factors.self c.next_factor.new.self refl (sym c.begins.ensures ∙ c.factors-test.true) c.next_factor.ensures

pub next_factors-factors-preserved : goal.next_factors-factors-preserved
next_factors-factors-preserved t c = depth_turn c.args.indent.columns c.args.depth (next_factor c.args.indent.columns) c.factors.self c.next_factor.new.self refl (sym c.begins.ensures ∙ c.factors-test.true) c.factors.invariant c.next_factor.ensures

pub next_factors-returns : goal.next_factors-returns
next_factors-returns t c = depth_over c.args.indent.columns c.args.depth (next_factor c.args.indent.columns) c.factors.self (sym c.begins.ensures ∙ c.factors-test.false) c.factors.invariant

pub next_accesses-accesses-smaller : goal.next_accesses-accesses-smaller
next_accesses-accesses-smaller t c = depth_less c.args.indent.columns c.args.depth (next_access c.args.indent.columns) c.accesses.self c.next_access.new.self refl (sym c.begins.ensures ∙ c.accesses-test.true) c.next_access.ensures

pub next_accesses-accesses-preserved : goal.next_accesses-accesses-preserved
next_accesses-accesses-preserved t c = depth_turn c.args.indent.columns c.args.depth (next_access c.args.indent.columns) c.accesses.self c.next_access.new.self refl (sym c.begins.ensures ∙ c.accesses-test.true) c.accesses.invariant c.next_access.ensures

pub next_accesses-returns : goal.next_accesses-returns
next_accesses-returns t c = depth_over c.args.indent.columns c.args.depth (next_access c.args.indent.columns) c.accesses.self (sym c.begins.ensures ∙ c.accesses-test.false) c.accesses.invariant

pub next_exprs-exprs-smaller : goal.next_exprs-exprs-smaller
next_exprs-exprs-smaller t c = often_at_less c.args.indent.columns c.args.depth K.Comma (line ▸ inner) c.exprs.self c.next_expr.new.self (sym c.goes.ensures ∙ c.exprs-test.true) c.next_expr.ensures

pub next_exprs-exprs-preserved : goal.next_exprs-exprs-preserved
next_exprs-exprs-preserved t c = often_at_turn c.args.indent.columns c.args.depth K.Comma (line ▸ inner) c.exprs.self c.next_expr.new.self (sym c.goes.ensures ∙ c.exprs-test.true) c.exprs.invariant c.next_expr.ensures

pub next_exprs-returns : goal.next_exprs-returns
next_exprs-returns t c = often_at_over c.args.indent.columns c.args.depth K.Comma (line ▸ inner) c.exprs.self (sym c.goes.ensures ∙ c.exprs-test.false) c.exprs.invariant

pub next_inits-inits-smaller : goal.next_inits-inits-smaller
next_inits-inits-smaller t c = often_at_less c.args.indent.columns c.args.depth K.Comma (line ▸ init c.args.indent.columns) c.inits.self c.next_init.new.self (sym c.goes.ensures ∙ c.inits-test.true) c.next_init.ensures

pub next_inits-inits-preserved : goal.next_inits-inits-preserved
next_inits-inits-preserved t c = often_at_turn c.args.indent.columns c.args.depth K.Comma (line ▸ init c.args.indent.columns) c.inits.self c.next_init.new.self (sym c.goes.ensures ∙ c.inits-test.true) c.inits.invariant c.next_init.ensures

pub next_inits-returns : goal.next_inits-returns
next_inits-returns t c = often_at_over c.args.indent.columns c.args.depth K.Comma (line ▸ init c.args.indent.columns) c.inits.self (sym c.goes.ensures ∙ c.inits-test.false) c.inits.invariant

pub below-returns : goal.below-returns
below-returns t c = c.put-3.ensures ∙ ap (W.add M.end_nest) (c.inner.ensures ∙ ap (at_depth c.args.indent.columns c.args.depth inner) (c.put-2.ensures ∙ ap (W.add M.line) c.put.ensures))

pub or-returns : goal.or-returns
unfolding or
or-returns t c = c.next_ands.ensures ∙ ap (at_depth c.args.indent.columns c.args.depth (star (next_and c.args.indent.columns))) c.and.ensures

pub next_and-returns : goal.next_and-returns
next_and-returns t c = c.and.ensures ∙ ap (at_depth c.args.indent.columns c.args.depth (and c.args.indent.columns)) (c.take_then.ensures ∙ ap (W.take (is K.Or) [] (M.line ∷ [])) c.put.ensures)

pub and-returns : goal.and-returns
unfolding and
and-returns t c = c.next_relations.ensures ∙ ap (at_depth c.args.indent.columns c.args.depth (star (next_relation c.args.indent.columns))) c.relation.ensures

pub next_relation-returns : goal.next_relation-returns
next_relation-returns t c = c.relation.ensures ∙ ap (at_depth c.args.indent.columns c.args.depth (relation c.args.indent.columns)) (c.take_then.ensures ∙ ap (W.take (is K.And) [] (M.line ∷ [])) c.put.ensures)

pub relation-returns : goal.relation-returns
unfolding relation
relation-returns t c = c.relation_end.ensures ∙ ap (at_depth c.args.indent.columns c.args.depth (relation_end c.args.indent.columns)) (c.add.ensures ∙ ap (at_depth c.args.indent.columns c.args.depth (add c.args.indent.columns)) c.put.ensures)

pub is_type-returns : goal.is_type-returns
is_type-returns t c = c.is_in.ensures ∙ ap (at_depth c.args.indent.columns c.args.depth (is_in c.args.indent.columns)) (c.put-4.ensures ∙ ap (W.add M.end_nest) (c.path.ensures ∙ ap (alone path) (c.put-3.ensures ∙ ap (W.add (M.nest c.args.indent.columns)) (c.put-2.ensures ∙ ap (W.add M.space) (c.take.ensures ∙ ap (W.take (is K.Is) [] []) c.put.ensures)))))

pub add-returns : goal.add-returns
unfolding add
add-returns t c = c.put-2.ensures ∙ ap (W.add M.end_group) (c.next_summands.ensures ∙ ap (at_depth c.args.indent.columns c.args.depth (star (next_summand c.args.indent.columns))) (c.mult.ensures ∙ ap (at_depth c.args.indent.columns c.args.depth (mult c.args.indent.columns)) c.put.ensures))

pub next_summand-returns : goal.next_summand-returns
next_summand-returns t c = c.mult.ensures ∙ ap (at_depth c.args.indent.columns c.args.depth (mult c.args.indent.columns)) (c.put-2.ensures ∙ ap (W.add M.line) (c.take.ensures ∙ ap (W.take (λ k. is K.Add k || is K.Dash k) [] []) c.put.ensures))

pub mult-returns : goal.mult-returns
unfolding mult
mult-returns t c = c.put-2.ensures ∙ ap (W.add M.end_group) (c.next_factors.ensures ∙ ap (at_depth c.args.indent.columns c.args.depth (star (next_factor c.args.indent.columns))) (c.unary.ensures ∙ ap (at_depth c.args.indent.columns c.args.depth (unary c.args.indent.columns)) c.put.ensures))

pub next_factor-returns : goal.next_factor-returns
next_factor-returns t c = c.unary.ensures ∙ ap (at_depth c.args.indent.columns c.args.depth (unary c.args.indent.columns)) (c.put-2.ensures ∙ ap (W.add M.line) (c.take.ensures ∙ ap (W.take (is K.Mul) [] []) c.put.ensures))

pub unary-returns : goal.unary-returns
unfolding unary
unary-returns t c = c.member.ensures ∙ ap (at_depth c.args.indent.columns c.args.depth (member c.args.indent.columns)) c.some_signs.ensures

pub member-returns : goal.member-returns
unfolding member
member-returns t c = c.put-2.ensures ∙ ap (W.add M.end_group) (c.grouped_member.ensures ∙ ap (at_depth c.args.indent.columns c.args.depth (grouped_member c.args.indent.columns)) c.put.ensures)

pub reference-returns : goal.reference-returns
reference-returns t c = c.reference_end.ensures ∙ ap (W.finish (is K.DoubleColon) (at_depth c.args.indent.columns c.args.depth (str ▸ accesses c.args.indent.columns)) (at_depth c.args.indent.columns c.args.depth (called c.args.indent.columns))) c.words.ensures

pub called-returns : goal.called-returns
called-returns t c = c.put-2.ensures ∙ ap (W.add M.end_nest) (c.next_accesses.ensures ∙ ap (at_depth c.args.indent.columns c.args.depth (star (next_access c.args.indent.columns))) (c.call.ensures ∙ ap (at_depth c.args.indent.columns c.args.depth (call c.args.indent.columns)) c.put.ensures))

pub accesses-returns : goal.accesses-returns
unfolding accesses
accesses-returns t c = c.put-2.ensures ∙ ap (W.add M.end_nest) (c.some_accesses.ensures ∙ ap (at_depth c.args.indent.columns c.args.depth (maybe (access c.args.indent.columns ▸ star (next_access c.args.indent.columns)))) c.put.ensures)

pub next_access-returns : goal.next_access-returns
next_access-returns t c = c.access.ensures ∙ ap (at_depth c.args.indent.columns c.args.depth (access c.args.indent.columns)) c.put.ensures

pub inits-returns : goal.inits-returns
inits-returns t c = c.last_comma.ensures ∙ ap (alone last_comma) (c.next_inits.ensures ∙ ap (often_at c.args.indent.columns c.args.depth K.Comma (line ▸ init c.args.indent.columns)) c.init.ensures)

pub next_init-returns : goal.next_init-returns
next_init-returns t c = c.init.ensures ∙ ap (at_depth c.args.indent.columns c.args.depth (init c.args.indent.columns)) (c.put.ensures ∙ ap (W.add M.line) c.take.ensures)

pub init-returns : goal.init-returns
init-returns t c = c.inner.ensures ∙ ap (at_depth c.args.indent.columns c.args.depth inner) (c.put.ensures ∙ ap (W.add M.space) (c.take.ensures ∙ ap (W.take (is K.Colon) [] []) c.key.ensures))

pub exprs-returns : goal.exprs-returns
exprs-returns t c = c.last_comma.ensures ∙ ap (alone last_comma) (c.next_exprs.ensures ∙ ap (often_at c.args.indent.columns c.args.depth K.Comma (line ▸ inner)) c.inner.ensures)

pub next_expr-returns : goal.next_expr-returns
next_expr-returns t c = c.inner.ensures ∙ ap (at_depth c.args.indent.columns c.args.depth inner) (c.put.ensures ∙ ap (W.add M.line) c.take.ensures)

pub call-returns : goal.call-returns
call-returns t c = opened c.args.indent.columns c.args.depth K.LParen [] (some_arguments c.args.indent.columns ▸ tok K.RParen) c.args.self.now _ (sym c.begins.ensures ∙ c.if-not-begins.false) (omega arith)
    (c.take-2.ensures ∙ ap (W.take (is K.RParen) [] []) (c.some_arguments.ensures ∙ ap (at_depth c.args.indent.columns c.args.depth (some_arguments c.args.indent.columns)) c.take.ensures))

pub fields-returns : goal.fields-returns
fields-returns t c = opened c.args.indent.columns c.args.depth K.LBrace [] (some_inits c.args.indent.columns ▸ tok K.RBrace) c.args.self.now _ (sym c.begins.ensures ∙ c.if-not-begins.false) (omega arith)
    (c.take-2.ensures ∙ ap (W.take (is K.RBrace) [] []) (c.some_inits.ensures ∙ ap (at_depth c.args.indent.columns c.args.depth (some_inits c.args.indent.columns)) c.take.ensures))

pub list-returns : goal.list-returns
list-returns t c = opened c.args.indent.columns c.args.depth K.LBracket [] (nest (pos 1) (some_exprs c.args.indent.columns) ▸ tok K.RBracket) c.args.self.now _ c.requires (omega arith)
    (c.take-2.ensures ∙ ap (W.take (is K.RBracket) [] []) (c.put-2.ensures ∙ ap (W.add M.end_nest) (c.some_exprs.ensures
    ∙ ap (at_depth c.args.indent.columns c.args.depth (some_exprs c.args.indent.columns)) (c.put.ensures ∙ ap (W.add (M.nest (pos 1))) c.take.ensures))))

pub if_expr-returns : goal.if_expr-returns
if_expr-returns t c = opened c.args.indent.columns c.args.depth K.If (M.begin ∷ [])
    ((below c.args.indent.columns ▸ line ▸ tok K.Then ▸ below c.args.indent.columns ▸ line ▸ tok K.Else ▸ below c.args.indent.columns) ▸ end_group) c.args.self.now _ c.requires (omega arith)
    (c.put-4.ensures ∙ ap (W.add M.end_group) (c.below-3.ensures ∙ ap (at_depth c.args.indent.columns c.args.depth (below c.args.indent.columns)) (c.take-3.ensures ∙ ap (W.take (is K.Else) [] [])
    (c.put-3.ensures ∙ ap (W.add M.line) (c.below-2.ensures ∙ ap (at_depth c.args.indent.columns c.args.depth (below c.args.indent.columns)) (c.take-2.ensures ∙ ap (W.take (is K.Then) [] [])
    (c.put-2.ensures ∙ ap (W.add M.line) (c.below.ensures ∙ ap (at_depth c.args.indent.columns c.args.depth (below c.args.indent.columns)) (c.take.ensures ∙ ap (W.take (is K.If) [] []) c.put.ensures)))))))))
