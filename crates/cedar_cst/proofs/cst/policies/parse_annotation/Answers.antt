use Rattle.std.proofs.Common.{refl, sym, ap, ◌∙◌}
use Rattle.cedar_tokens.specs.declared.kind.Kind.TheVariants as K
use Rattle.cedar_tokens.specs.Kinds.{is}
use Rattle.cedar_grammar.specs.Trees.{Label, leaf, branch, none}
use Rattle.cedar_grammar.specs.Reader.Reading.{tree, token}
use Rattle.cedar_grammar.proofs.Readers.Equations.{tree_done, tree_fails, both_done, both_then_fails, choice_yes, choice_no}
use Rattle.cedar_reading.specs.Reading.{kind, str_parts}
use Rattle.cedar_reading.proofs.Steps.{passes, first_begins, is_itself, token_at}
use Rattle.cedar_reading.proofs.Refusals.{refused, in_tree, in_first, in_second}
use Rattle.cedar_reading.proofs.Rows.{row_more, row_node, row_nodes, row_token, row_span}
use Rattle.cedar_reading.proofs.Followed.{followed_fails, followed_done}
use Rattle.cedar_cst.proofs.cst.policies.parse_annotation.Goals as goal

pub returns-in_err-key-clause-reads : goal.returns-in_err-key-clause-reads
returns-in_err-key-clause-reads c =
    rw (refused c.from_residual-in_err-key.ensures.1) (in_tree _ _ _ _ (in_second _ _ _ _ _ _
    c.in_ok-at.ensures.reads.0 (in_first _ _ _ _ c.in_err-key.ensures.reads)))

pub returns-in_err-value-in-Some-clause-reads : goal.returns-in_err-value-in-Some-clause-reads
returns-in_err-value-in-Some-clause-reads c =
    let d = c.in-Some.ensures.token in
    let t = is_itself K.LParen d.0.kind (sym d.2) in
    rw (refused c.from_residual-in_err-value-in-Some.ensures.1) (passes _ _ _
    (followed_fails Label.str str_parts K.RParen (tree Label.str (token kind (is K.Str))) _
    c.parse_str.result _ c.parse_str.ensures.reads c.in_err-value-in-Some.ensures.reads)
    (λ x r e. tree_fails Label.annotation _ _ x r (both_then_fails _ _ _ _ _ x r
    c.in_ok-at.ensures.reads.0 (both_then_fails _ _ _ _ _ x r c.in_ok-key.ensures.reads.1
    (choice_yes _ _ _ _ (first_begins (is K.LParen) _ _ _ d.1 ∙ t)
    ∙ both_then_fails _ _ _ _ _ x r (token_at (is K.LParen) _ _ _ d.1 t) e)))))

pub returns-in_ok-value-in-Some-clause-reads : goal.returns-in_ok-value-in-Some-clause-reads
returns-in_ok-value-in-Some-clause-reads c =
    let a = c.in_ok-at.ensures.reads in
    let h = c.in_ok-key.ensures.reads in
    let d = c.in-Some.ensures.token in
    let t = is_itself K.LParen d.0.kind (sym d.2) in
    let v = c.in_ok-value-in-Some in
    let q = followed_done Label.str str_parts K.RParen (tree Label.str (token kind (is K.Str))) _
    c.parse_str.result ((v.value, v.end), v.rest) c.parse_str.ensures.reads v.ensures.reads in (
      leaf c.in_ok-at.at (branch Label.ident h.0 (leaf d.0 (branch Label.str q.0 (leaf q.1 none)))),
      tree_done Label.annotation _ _ _ _ (both_done _ _ _ _ _ _ _ a.0 (both_done _ _ _ _ _ _ _ h.1
          (choice_yes _ _ _ _ (first_begins (is K.LParen) _ _ _ d.1 ∙ t)
          ∙ both_done _ _ _ _ _ _ _ (token_at (is K.LParen) _ _ _ d.1 t) q.2))),
      row_span _ _ _ _ (ap (λ z. record { start = c.in_ok-at.at.span.start; end = z }) (sym q.5))
          (row_more _ K.At _ _ _ a.1 refl refl
          (row_nodes Label.ident _ _ _ _ _ _ refl h.2 (row_more _ K.LParen _ _ _ d.2 refl refl
          (row_nodes Label.str _ _ _ _ _ _ refl q.4 (row_token _ K.RParen q.3 refl refl))))),
    )

pub returns-in-None-clause-reads : goal.returns-in-None-clause-reads
returns-in-None-clause-reads c =
    let a = c.in_ok-at.ensures.reads in
    let h = c.in_ok-key.ensures.reads in (
      leaf c.in_ok-at.at (branch Label.ident h.0 none),
      tree_done Label.annotation _ _ _ _ (both_done _ _ _ _ _ _ _ a.0
          (both_done _ _ _ _ _ _ _ h.1 (choice_no _ _ _ _ c.in-None.ensures.token))),
      row_more _ K.At _ _ _ a.1 refl refl (row_node Label.ident _ _ _ refl h.2),
    )
