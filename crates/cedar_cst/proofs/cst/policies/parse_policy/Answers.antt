use Rattle.std.proofs.Common.{suc, refl, sym, ◌∙◌}
use Rattle.cedar_tokens.specs.declared.kind.Kind.TheVariants as K
use Rattle.cedar_grammar.specs.Texts.{greatest_depth}
use Rattle.cedar_grammar.specs.Trees.{Label}
use Rattle.cedar_grammar.specs.Reader.Reading.{Reader}
use Rattle.cedar_grammar.specs.Reader.Rules.{star}
use Rattle.cedar_grammar.specs.Reader.Lines.{cond_rule, policy_rule, expr_to}
use Rattle.cedar_reading.specs.Reading.{kind}
use Rattle.cedar_cst.specs.ReadingExprs.{at_depth}
use Rattle.cedar_reading.specs.declared.lexeme.Lexeme.{Lexeme}
use Rattle.cedar_reading.proofs.Steps.{passes}
use Rattle.cedar_reading.proofs.Refusals.{refused}
use Rattle.cedar_reading.proofs.Rows.{row_span}
use Rattle.cedar_cst.proofs.Starts.{node_starts}
use Rattle.cedar_cst.proofs.Policies.{many_followed_fails, many_followed_done, repeat_opens, annotations_fail, effect_fails, scope_fails, ending_fails, policy_done, policy_stands, span_ends}
use Rattle.cedar_cst.proofs.cst.policies.parse_policy.Goals as goal
use Rattle.cedar_grammar.specs.Erased.{cond_parts}

abbrev E : Reader Lexeme
E = expr_to kind greatest_depth

abbrev C : Reader Lexeme
C = at_depth (suc greatest_depth) (star cond_rule)

pub returns-in_err-annotations-clause-reads : goal.returns-in_err-annotations-clause-reads
returns-in_err-annotations-clause-reads c = rw (refused c.from_residual.ensures.1)
    (passes _ _ _ c.in_err-annotations.ensures.reads (annotations_fail E _))

pub returns-in_err-effect-clause-reads : goal.returns-in_err-effect-clause-reads
returns-in_err-effect-clause-reads c =
    rw (refused c.from_residual-in_err-effect.ensures.1) (passes _ _ _ c.in_err-effect.ensures.reads
    (λ x r e. effect_fails E _ _ _ x r c.in_ok-annotations.ensures.reads.1 e))

pub returns-in_err-variables-clause-reads : goal.returns-in_err-variables-clause-reads
returns-in_err-variables-clause-reads c = rw (refused c.from_residual-in_err-variables.ensures.1)
    (passes _ _ _ c.in_err-variables.ensures.reads (λ x r e. scope_fails E _ _ _ _ _ x r
    c.in_ok-annotations.ensures.reads.1 c.in_ok-effect.ensures.reads.1 e))

pub returns-in_err-conds-clause-reads : goal.returns-in_err-conds-clause-reads
returns-in_err-conds-clause-reads c =
    rw (refused c.from_residual-in_err-conds.ensures.1)
    (passes _ _ _ (many_followed_fails Label.condition cond_parts K.SemiColon C _
    c.parse_conds.result _ c.parse_conds.ensures.reads c.in_err-conds.ensures.reads)
    (λ x r e. ending_fails E _ _ _ _ _ _ _ x r c.in_ok-annotations.ensures.reads.1
    c.in_ok-effect.ensures.reads.1 c.in_ok-variables.ensures.reads.2 e))

pub returns-clause-reads : goal.returns-clause-reads
returns-clause-reads c =
    let a = c.in_ok-annotations.ensures.reads in
    let e = c.in_ok-effect.ensures.reads in
    let s = c.in_ok-variables.ensures.reads in
    let v = c.in_ok-conds in
    let q = many_followed_done Label.condition cond_parts K.SemiColon C _ c.parse_conds.result
    ((v.conds, _), v.rest) c.parse_conds.ensures.reads v.ensures.reads in
    let w = policy_done E _ _ _ _ _ _ _ _ _ a.1 e.1 s.2 q.4 in
    let t = policy_stands (record {
      annotations = c.in_ok-annotations.annotations;
      effect = c.in_ok-effect.effect;
      variables = c.in_ok-variables.variables;
      conds = v.conds;
    }) s.1 a.0 e.0 s.0 q.0 q.1 a.2 e.2 s.3 q.6 (repeat_opens _ Label.condition _ _ _ _ q.3) q.5 in (
      _,
      w,
      row_span _ _ _ _
          (span_ends t.0 _ _ (c.start_of-start.ensures ∙ node_starts (suc greatest_depth)
          policy_rule refl refl refl Label.policy _ _ _ t.0 w t.2.place) (t.1 ∙ sym q.7)) t.2,
    )
