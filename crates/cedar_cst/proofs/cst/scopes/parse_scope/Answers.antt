use Rattle.cedar_tokens.specs.declared.kind.Kind.TheVariants as K
use Rattle.cedar_grammar.specs.Trees.{Label}
use Rattle.cedar_grammar.specs.Reader.Reading.{Reader}
use Rattle.cedar_grammar.specs.Reader.Lines.{scoped, action}
use Rattle.cedar_grammar.proofs.Readers.Equations.{both_fails, both_then_fails}
use Rattle.cedar_reading.specs.Reading.{flat}
use Rattle.cedar_reading.specs.declared.lexeme.Lexeme.{Lexeme}
use Rattle.cedar_reading.proofs.Steps.{passes}
use Rattle.cedar_reading.proofs.Refusals.{refused}
use Rattle.cedar_reading.proofs.Followed.{followed_fails, followed_done}
use Rattle.cedar_cst.proofs.Scopes.{closing, first_fails, second_fails, action_fails, third_fails, scope_done, closed_scope, closing_stuck}
use Rattle.cedar_cst.proofs.cst.scopes.parse_scope.Goals as goal
use Rattle.cedar_grammar.specs.Erased.{variable_parts}

abbrev U : Reader Lexeme
U = flat (scoped K.Principal K.PrincipalSlot)

abbrev A : Reader Lexeme
A = flat action

abbrev V : Reader Lexeme
V = flat (scoped K.Resource K.ResourceSlot)

pub returns-in_err-principal-clause-reads : goal.returns-in_err-principal-clause-reads
returns-in_err-principal-clause-reads c =
    let o = c.in_ok-rest.ensures.reads in
    rw (refused c.from_residual-in_err-principal.ensures.1) (passes _ _ _
    (followed_fails Label.variable variable_parts K.Comma U _ c.parse_variable-principal.result _
    c.parse_variable-principal.ensures.reads c.in_err-principal.ensures.reads)
    (λ x r e. first_fails U A V _ _ _ x r o.0 e))

pub returns-in_err-action-clause-reads : goal.returns-in_err-action-clause-reads
returns-in_err-action-clause-reads c =
    let o = c.in_ok-rest.ensures.reads in
    let v = c.in_ok-principal in
    let f =
    followed_done Label.variable variable_parts K.Comma U _ c.parse_variable-principal.result
    ((v.principal, _), v.rest) c.parse_variable-principal.ensures.reads v.ensures.reads in
    rw (refused c.from_residual-in_err-action.ensures.1)
    (passes _ _ _ (followed_fails Label.variable variable_parts K.Comma A _ c.parse_action.result _
    c.parse_action.ensures.reads c.in_err-action.ensures.reads)
    (λ x r e. second_fails U A V _ _ _ _ _ x r o.0 f.2 (action_fails U A V _ x r e)))

pub returns-in_err-resource-clause-reads : goal.returns-in_err-resource-clause-reads
returns-in_err-resource-clause-reads c =
    let o = c.in_ok-rest.ensures.reads in
    let v = c.in_ok-principal in
    let f =
    followed_done Label.variable variable_parts K.Comma U _ c.parse_variable-principal.result
    ((v.principal, _), v.rest) c.parse_variable-principal.ensures.reads v.ensures.reads in
    let w = c.in_ok-action in
    let g = followed_done Label.variable variable_parts K.Comma A _ c.parse_action.result
    ((w.action, _), w.rest) c.parse_action.ensures.reads w.ensures.reads in
    rw (refused c.from_residual-in_err-resource.ensures.1)
    (passes _ _ _ c.in_err-resource.ensures.reads (λ x r e. second_fails U A V _ _ _ _ _ x r o.0 f.2
    (third_fails U A V _ _ _ x r g.2 (both_fails V closing _ x r e))))

pub returns-in_err-rest-2-clause-reads : goal.returns-in_err-rest-2-clause-reads
returns-in_err-rest-2-clause-reads c =
    let o = c.in_ok-rest.ensures.reads in
    let v = c.in_ok-principal in
    let f =
    followed_done Label.variable variable_parts K.Comma U _ c.parse_variable-principal.result
    ((v.principal, _), v.rest) c.parse_variable-principal.ensures.reads v.ensures.reads in
    let w = c.in_ok-action in
    let g = followed_done Label.variable variable_parts K.Comma A _ c.parse_action.result
    ((w.action, _), w.rest) c.parse_action.ensures.reads w.ensures.reads in
    let h = c.in_ok-resource.ensures.reads in
    rw (refused c.from_residual-in_err-rest-2.ensures.1)
    (passes _ _ _ c.in_err-rest-2.ensures.reads (λ x r e.
    second_fails U A V _ _ _ _ _ x r o.0 f.2 (third_fails U A V _ _ _ x r g.2 (both_then_fails V
    closing _ _ _ x r h.1 (closing_stuck c.skip.result _ _ x r c.skip.ensures.token e)))))

pub returns-clause-reads : goal.returns-clause-reads
returns-clause-reads c =
    let o = c.in_ok-rest.ensures.reads in
    let v = c.in_ok-principal in
    let f =
    followed_done Label.variable variable_parts K.Comma U _ c.parse_variable-principal.result
    ((v.principal, _), v.rest) c.parse_variable-principal.ensures.reads v.ensures.reads in
    let w = c.in_ok-action in
    let g = followed_done Label.variable variable_parts K.Comma A _ c.parse_action.result
    ((w.action, _), w.rest) c.parse_action.ensures.reads w.ensures.reads in
    let h = c.in_ok-resource.ensures.reads in
    let t = c.in_ok-rest-2.ensures.reads in
    let q = closed_scope v.principal w.action c.in_ok-resource.resource f.0 g.0 h.0 f.1 g.1 f.3 g.3
    f.4 g.4 h.2 c.skip.result _ _ _ _ _ c.skip.ensures.token o.1 t.0 t.1 in
    (_, _, scope_done U A V _ _ _ _ _ _ _ _ _ _ q.0 o.0 f.2 g.2 h.1 q.1, q.2)
