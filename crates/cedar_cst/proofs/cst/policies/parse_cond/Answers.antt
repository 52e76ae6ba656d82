use Rattle.std.proofs.Common.{ap, sym, ◌∙◌}
use Rattle.cedar_tokens.specs.declared.kind.Kind.TheVariants as K
use Rattle.cedar_grammar.specs.Texts.{greatest_depth}
use Rattle.cedar_grammar.specs.Trees.{Label}
use Rattle.cedar_grammar.specs.Reader.Reading.{Reader}
use Rattle.cedar_grammar.specs.Reader.Lines.{expr_to}
use Rattle.cedar_grammar.specs.Erased.{expr_parts}
use Rattle.cedar_reading.specs.Reading.{kind}
use Rattle.cedar_reading.specs.declared.lexeme.Lexeme.{Lexeme}
use Rattle.cedar_reading.proofs.Steps.{passes}
use Rattle.cedar_reading.proofs.Refusals.{refused}
use Rattle.cedar_reading.proofs.Rows.{row_span}
use Rattle.cedar_reading.proofs.Followed.{followed_fails, followed_done}
use Rattle.cedar_cst.proofs.Conds.{word_fails, brace_fails, expr_fails, cond_done, cond_stands}
use Rattle.cedar_cst.proofs.cst.policies.parse_cond.Goals as goal

abbrev E : Reader Lexeme
E = expr_to kind greatest_depth

pub returns-in_err-cond-clause-reads : goal.returns-in_err-cond-clause-reads
returns-in_err-cond-clause-reads c = rw (refused c.from_residual.ensures.1)
    (passes _ _ _ c.in_err-cond.ensures.reads (word_fails E _))

pub returns-in_err-rest-clause-reads : goal.returns-in_err-rest-clause-reads
returns-in_err-rest-clause-reads c = rw (refused c.from_residual-in_err-rest.ensures.1) (passes _ _
    _ c.in_err-rest.ensures.reads (λ x r e. brace_fails E _ _ _ x r c.in_ok-cond.ensures.reads.1 e))

pub returns-in_err-expr-clause-reads : goal.returns-in_err-expr-clause-reads
returns-in_err-expr-clause-reads c =
    let h = c.in_ok-cond.ensures.reads in
    let o = c.in_ok-rest.ensures.reads in
    rw (refused c.from_residual-in_err-expr.ensures.1)
    (passes _ _ _ (followed_fails Label.expr expr_parts K.RBrace E _ c.parse_expr.result _
    c.parse_expr.ensures.reads c.in_err-expr.ensures.reads)
    (λ x r e. expr_fails E _ _ _ _ _ x r h.1 o.0 e))

pub returns-clause-reads : goal.returns-clause-reads
returns-clause-reads c =
    let h = c.in_ok-cond.ensures.reads in
    let o = c.in_ok-rest.ensures.reads in
    let v = c.in_ok-expr in
    let q = followed_done Label.expr expr_parts K.RBrace E _ c.parse_expr.result
    ((v.expr, _), v.rest) c.parse_expr.ensures.reads v.ensures.reads in (
      _,
      cond_done E _ _ _ _ _ _ _ h.1 o.0 q.2,
      row_span _ _ _ _ (ap (λ z. record { start = c.in_ok-cond.cond.span.start; end = z }) (sym q.5)
          ∙ sym c.to-span.ensures) (cond_stands (record { cond = c.in_ok-cond.cond; expr = v.expr })
          h.0 q.0 c.in_ok-rest.field-0-0 q.1 h.2 o.1 q.4 q.3),
    )
