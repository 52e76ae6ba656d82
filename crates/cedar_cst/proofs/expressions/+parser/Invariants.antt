use Rattle.std.proofs.Common.{◌+◌, ◌*◌, ◌<◌, ◌≤◌, length}
use Rattle.std.specs.Prelude.{suc, ◌||◌, codes}
use Rattle.cedar_tokens.specs.declared.kind.Kind.TheVariants as K
use Rattle.cedar_tokens.specs.Kinds.{is, is_ident, begins}
use Rattle.cedar_grammar.specs.Trees.{Label}
use Rattle.cedar_grammar.specs.Reader.Rules.{expr_first}
use Rattle.cedar_grammar.specs.Reader.Lines.{and_rule, relation_rule, mult_rule, unary_rule, item, access_rule, init, expr_to}
use Rattle.cedar_grammar.specs.Erased.{expr_parts, relation_parts, mult_parts, unary_parts, addop_text}
use Rattle.cedar_reading.specs.Reading.{kind}
use Rattle.cedar_cst.specs.ReadingExprs.{at_depth}
use Rattle.cedar_grammar.specs.NodeLists.{and_parts, init_parts}
use Rattle.cedar_cst.proofs.Chains.{OperandsRead}
use Rattle.cedar_reading.proofs.Operands.{AccessesRead}
use Rattle.cedar_cst.proofs.Listed.{ItemsRead}
use Rattle.cedar_cst.proofs.expressions.+parser.Given as goal

abbrev pub decreases-parse_call : goal.decreases-parse_call
decreases-parse_call l = 16 * l.depth + 0

abbrev pub decreases-parse_reference : goal.decreases-parse_reference
decreases-parse_reference l = 16 * l.depth + 1

abbrev pub decreases-parse_item : goal.decreases-parse_item
decreases-parse_item l = 16 * l.depth + 2

abbrev pub decreases-parse_member : goal.decreases-parse_member
decreases-parse_member l = 16 * l.depth + 3

abbrev pub decreases-parse_unary : goal.decreases-parse_unary
decreases-parse_unary l = 16 * l.depth + 4

abbrev pub decreases-parse_mult : goal.decreases-parse_mult
decreases-parse_mult l = 16 * l.depth + 5

abbrev pub decreases-parse_add : goal.decreases-parse_add
decreases-parse_add l = 16 * l.depth + 6

abbrev pub decreases-parse_type_test : goal.decreases-parse_type_test
decreases-parse_type_test l = 16 * l.depth + 7

abbrev pub decreases-parse_compared : goal.decreases-parse_compared
decreases-parse_compared l = 16 * l.depth + 7

abbrev pub decreases-parse_relation : goal.decreases-parse_relation
decreases-parse_relation l = 16 * l.depth + 8

abbrev pub decreases-parse_and : goal.decreases-parse_and
decreases-parse_and l = 16 * l.depth + 9

abbrev pub decreases-parse_or : goal.decreases-parse_or
decreases-parse_or l = 16 * l.depth + 10

abbrev pub decreases-parse_expr : goal.decreases-parse_expr
decreases-parse_expr l = 16 * l.depth + 11

abbrev pub decreases-parse_branch : goal.decreases-parse_branch
decreases-parse_branch l = 16 * l.depth + 12

abbrev pub decreases-parse_if : goal.decreases-parse_if
decreases-parse_if l = 16 * l.depth + 13

abbrev pub decreases-parse_init : goal.decreases-parse_init
decreases-parse_init l = 16 * l.depth + 12

abbrev pub decreases-parse_inits : goal.decreases-parse_inits
decreases-parse_inits l = 16 * l.depth + 13

abbrev pub decreases-parse_exprs : goal.decreases-parse_exprs
decreases-parse_exprs l = 16 * l.depth + 12

abbrev pub decreases-parse_bracket : goal.decreases-parse_bracket
decreases-parse_bracket l = 16 * l.depth + 14

abbrev pub invariant-parse_or-operands : goal.invariant-parse_or-operands
invariant-parse_or-operands l = (length l.rest < length l.fn.tokens)
    × OperandsRead Label.and and_parts (λ _. codes "||") (λ n. n) Label.or (is K.Or)
    (at_depth l.fn.depth and_rule) l.first.value l.extended.items l.fn.tokens l.rest

abbrev pub decreases-parse_or-operands : goal.decreases-parse_or-operands
decreases-parse_or-operands l = length l.rest

abbrev pub invariant-parse_and-operands : goal.invariant-parse_and-operands
invariant-parse_and-operands l = (length l.rest < length l.fn.tokens)
    × OperandsRead Label.relation relation_parts (λ _. codes "&&") (λ n. n) Label.and (is K.And)
    (at_depth l.fn.depth relation_rule) l.first.value l.extended.items l.fn.tokens l.rest

abbrev pub decreases-parse_and-operands : goal.decreases-parse_and-operands
decreases-parse_and-operands l = length l.rest

abbrev pub invariant-parse_add-operands : goal.invariant-parse_add-operands
invariant-parse_add-operands l = (length l.rest < length l.fn.tokens) × OperandsRead Label.mult
    mult_parts (λ x. addop_text x.0) (λ x. x.1) Label.add (λ x. is K.Add x || is K.Dash x)
    (at_depth l.fn.depth mult_rule) l.first.value l.extended.items l.fn.tokens l.rest

abbrev pub decreases-parse_add-operands : goal.decreases-parse_add-operands
decreases-parse_add-operands l = length l.rest

abbrev pub invariant-parse_mult-operands : goal.invariant-parse_mult-operands
invariant-parse_mult-operands l = (length l.rest < length l.fn.tokens)
    × OperandsRead Label.unary unary_parts (λ _. codes "*") (λ x. x.1) Label.mult (is K.Mul)
    (at_depth l.fn.depth unary_rule) l.first.value l.extended.items l.fn.tokens l.rest

abbrev pub decreases-parse_mult-operands : goal.decreases-parse_mult-operands
decreases-parse_mult-operands l = length l.rest

abbrev pub invariant-parse_member-accesses : goal.invariant-parse_member-accesses
invariant-parse_member-accesses l = (length l.rest < length l.fn.tokens)
    × AccessesRead (at_depth l.fn.depth item) (begins kind (λ x. is K.Dot x || is K.LBracket x))
    (at_depth l.fn.depth access_rule) l.item.value l.access.items l.fn.tokens l.rest

abbrev pub decreases-parse_member-accesses : goal.decreases-parse_member-accesses
decreases-parse_member-accesses l = length l.rest

abbrev pub invariant-parse_exprs-items : goal.invariant-parse_exprs-items
invariant-parse_exprs-items l = (length l.rest ≤ length l.fn.tokens) × ItemsRead Label.expr
    expr_parts expr_first (expr_to kind l.fn.depth) l.fn.tokens l.items.items l.rest

abbrev pub decreases-parse_exprs-items : goal.decreases-parse_exprs-items
decreases-parse_exprs-items l = length l.rest

abbrev pub invariant-parse_inits-inits : goal.invariant-parse_inits-inits
invariant-parse_inits-inits l = (length l.rest ≤ length l.fn.tokens)
    × ItemsRead Label.rec_init init_parts (λ x. is_ident x || is K.Str x)
    (at_depth (suc l.fn.depth) init) l.fn.tokens l.inits.items l.rest

abbrev pub decreases-parse_inits-inits : goal.decreases-parse_inits-inits
decreases-parse_inits-inits l = length l.rest
