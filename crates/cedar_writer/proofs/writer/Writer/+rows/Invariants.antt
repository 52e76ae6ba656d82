use Rattle.std.proofs.Common.{◌≡◌, ◌+◌, ◌*◌}
use Rattle.cedar_tokens.specs.declared.kind.Kind.TheVariants as K
use Rattle.cedar_writer.specs.Rules.{inner, line, star, ◌▸◌}
use Rattle.cedar_writer.specs.Lines.{init}
use Rattle.cedar_writer.specs.Writing.{size}
use Rattle.cedar_writer.specs.Depths.{at_depth, often_at}
use Rattle.cedar_writer.specs.Parts.{next_and, next_relation, next_summand, next_factor, next_access}
use Rattle.cedar_writer.proofs.writer.Writer.+rows.Given as goal

abbrev pub decreases-inner : goal.decreases-inner
decreases-inner l = 36 * l.depth + 0

abbrev pub decreases-below : goal.decreases-below
decreases-below l = 36 * l.depth + 1

abbrev pub decreases-if_expr : goal.decreases-if_expr
decreases-if_expr l = 36 * l.depth + 2

abbrev pub decreases-next_init : goal.decreases-next_init
decreases-next_init l = 36 * l.depth + 2

abbrev pub decreases-next_expr : goal.decreases-next_expr
decreases-next_expr l = 36 * l.depth + 1

abbrev pub decreases-next_exprs : goal.decreases-next_exprs
decreases-next_exprs l = 36 * l.depth + 2

abbrev pub decreases-exprs : goal.decreases-exprs
decreases-exprs l = 36 * l.depth + 3

abbrev pub decreases-some_exprs : goal.decreases-some_exprs
decreases-some_exprs l = 36 * l.depth + 4

abbrev pub decreases-some_arguments : goal.decreases-some_arguments
decreases-some_arguments l = 36 * l.depth + 4

abbrev pub decreases-list : goal.decreases-list
decreases-list l = 36 * l.depth + 5

abbrev pub decreases-parens : goal.decreases-parens
decreases-parens l = 36 * l.depth + 1

abbrev pub decreases-init : goal.decreases-init
decreases-init l = 36 * l.depth + 1

abbrev pub decreases-next_inits : goal.decreases-next_inits
decreases-next_inits l = 36 * l.depth + 3

abbrev pub decreases-inits : goal.decreases-inits
decreases-inits l = 36 * l.depth + 4

abbrev pub decreases-some_inits : goal.decreases-some_inits
decreases-some_inits l = 36 * l.depth + 5

abbrev pub decreases-fields : goal.decreases-fields
decreases-fields l = 36 * l.depth + 6

abbrev pub decreases-call : goal.decreases-call
decreases-call l = 36 * l.depth + 5

abbrev pub decreases-some_call : goal.decreases-some_call
decreases-some_call l = 36 * l.depth + 6

abbrev pub decreases-literal : goal.decreases-literal
decreases-literal l = 36 * l.depth + 7

abbrev pub decreases-access : goal.decreases-access
decreases-access l = 36 * l.depth + 7

abbrev pub decreases-next_access : goal.decreases-next_access
decreases-next_access l = 36 * l.depth + 8

abbrev pub decreases-next_accesses : goal.decreases-next_accesses
decreases-next_accesses l = 36 * l.depth + 9

abbrev pub decreases-some_accesses : goal.decreases-some_accesses
decreases-some_accesses l = 36 * l.depth + 10

abbrev pub decreases-accesses : goal.decreases-accesses
decreases-accesses l = 36 * l.depth + 11

abbrev pub decreases-called : goal.decreases-called
decreases-called l = 36 * l.depth + 10

abbrev pub decreases-reference_end : goal.decreases-reference_end
decreases-reference_end l = 36 * l.depth + 12

abbrev pub decreases-reference : goal.decreases-reference
decreases-reference l = 36 * l.depth + 13

abbrev pub decreases-after_variable : goal.decreases-after_variable
decreases-after_variable l = 36 * l.depth + 14

abbrev pub decreases-grouped_member : goal.decreases-grouped_member
decreases-grouped_member l = 36 * l.depth + 15

abbrev pub decreases-member : goal.decreases-member
decreases-member l = 36 * l.depth + 16

abbrev pub decreases-unary : goal.decreases-unary
decreases-unary l = 36 * l.depth + 17

abbrev pub decreases-next_factor : goal.decreases-next_factor
decreases-next_factor l = 36 * l.depth + 18

abbrev pub decreases-next_factors : goal.decreases-next_factors
decreases-next_factors l = 36 * l.depth + 19

abbrev pub decreases-mult : goal.decreases-mult
decreases-mult l = 36 * l.depth + 20

abbrev pub decreases-next_summand : goal.decreases-next_summand
decreases-next_summand l = 36 * l.depth + 21

abbrev pub decreases-next_summands : goal.decreases-next_summands
decreases-next_summands l = 36 * l.depth + 22

abbrev pub decreases-add : goal.decreases-add
decreases-add l = 36 * l.depth + 23

abbrev pub decreases-some_comparison : goal.decreases-some_comparison
decreases-some_comparison l = 36 * l.depth + 24

abbrev pub decreases-is_in : goal.decreases-is_in
decreases-is_in l = 36 * l.depth + 24

abbrev pub decreases-is_type : goal.decreases-is_type
decreases-is_type l = 36 * l.depth + 25

abbrev pub decreases-test : goal.decreases-test
decreases-test l = 36 * l.depth + 26

abbrev pub decreases-relation_end : goal.decreases-relation_end
decreases-relation_end l = 36 * l.depth + 27

abbrev pub decreases-relation : goal.decreases-relation
decreases-relation l = 36 * l.depth + 28

abbrev pub decreases-next_relation : goal.decreases-next_relation
decreases-next_relation l = 36 * l.depth + 29

abbrev pub decreases-next_relations : goal.decreases-next_relations
decreases-next_relations l = 36 * l.depth + 30

abbrev pub decreases-and : goal.decreases-and
decreases-and l = 36 * l.depth + 31

abbrev pub decreases-next_and : goal.decreases-next_and
decreases-next_and l = 36 * l.depth + 32

abbrev pub decreases-next_ands : goal.decreases-next_ands
decreases-next_ands l = 36 * l.depth + 33

abbrev pub decreases-or : goal.decreases-or
decreases-or l = 36 * l.depth + 34

abbrev pub decreases-expr : goal.decreases-expr
decreases-expr l = 36 * l.depth + 35

abbrev pub invariant-next_ands-ands : goal.invariant-next_ands-ands
invariant-next_ands-ands l = at_depth l.indent.columns l.depth (star (next_and l.indent.columns)) l.fn.self ≡ at_depth l.indent.columns l.depth (star (next_and l.indent.columns)) l.self

abbrev pub decreases-next_ands-ands : goal.decreases-next_ands-ands
decreases-next_ands-ands l = size l.self

abbrev pub invariant-next_relations-relations : goal.invariant-next_relations-relations
invariant-next_relations-relations l = at_depth l.indent.columns l.depth (star (next_relation l.indent.columns)) l.fn.self ≡ at_depth l.indent.columns l.depth (star (next_relation l.indent.columns)) l.self

abbrev pub decreases-next_relations-relations : goal.decreases-next_relations-relations
decreases-next_relations-relations l = size l.self

abbrev pub invariant-next_summands-summands : goal.invariant-next_summands-summands
invariant-next_summands-summands l = at_depth l.indent.columns l.depth (star (next_summand l.indent.columns)) l.fn.self ≡ at_depth l.indent.columns l.depth (star (next_summand l.indent.columns)) l.self

abbrev pub decreases-next_summands-summands : goal.decreases-next_summands-summands
decreases-next_summands-summands l = size l.self

abbrev pub invariant-next_factors-factors : goal.invariant-next_factors-factors
invariant-next_factors-factors l = at_depth l.indent.columns l.depth (star (next_factor l.indent.columns)) l.fn.self ≡ at_depth l.indent.columns l.depth (star (next_factor l.indent.columns)) l.self

abbrev pub decreases-next_factors-factors : goal.decreases-next_factors-factors
decreases-next_factors-factors l = size l.self

abbrev pub invariant-next_accesses-accesses : goal.invariant-next_accesses-accesses
invariant-next_accesses-accesses l = at_depth l.indent.columns l.depth (star (next_access l.indent.columns)) l.fn.self ≡ at_depth l.indent.columns l.depth (star (next_access l.indent.columns)) l.self

abbrev pub decreases-next_accesses-accesses : goal.decreases-next_accesses-accesses
decreases-next_accesses-accesses l = size l.self

abbrev pub invariant-next_exprs-exprs : goal.invariant-next_exprs-exprs
invariant-next_exprs-exprs l = often_at l.indent.columns l.depth K.Comma (line ▸ inner) l.fn.self ≡ often_at l.indent.columns l.depth K.Comma (line ▸ inner) l.self

abbrev pub decreases-next_exprs-exprs : goal.decreases-next_exprs-exprs
decreases-next_exprs-exprs l = size l.self

abbrev pub invariant-next_inits-inits : goal.invariant-next_inits-inits
invariant-next_inits-inits l = often_at l.indent.columns l.depth K.Comma (line ▸ init l.indent.columns) l.fn.self ≡ often_at l.indent.columns l.depth K.Comma (line ▸ init l.indent.columns) l.self

abbrev pub decreases-next_inits-inits : goal.decreases-next_inits-inits
decreases-next_inits-inits l = size l.self
