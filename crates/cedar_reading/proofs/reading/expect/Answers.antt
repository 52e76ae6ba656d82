use Rattle.std.proofs.Common.{◌∙◌, sym}
use Rattle.cedar_tokens.specs.Kinds.{is}
use Rattle.cedar_reading.proofs.Steps.{kind_test, kind_is, first_begins, token_at, token_not, none_begins, fails_as}
use Rattle.cedar_reading.proofs.reading.expect.Goals as goal

pub returns-then-eq-clause-reads : goal.returns-then-eq-clause-reads
returns-then-eq-clause-reads c =
    let e = sym (c.eq.ensures ∙ kind_test _ _) ∙ c.if-eq.true in
    (token_at (is c.args.wanted) _ _ _ c.in-Some.ensures.cases.0 e, sym (kind_is _ _ e))

pub returns-else-eq-clause-reads : goal.returns-else-eq-clause-reads
returns-else-eq-clause-reads c =
    let e = sym (c.eq.ensures ∙ kind_test _ _) ∙ c.if-eq.false in
    fails_as _ _ _ c.refuse.ensures (token_not (is c.args.wanted) _
    (first_begins (is c.args.wanted) _ _ _ c.in-Some.ensures.cases.0 ∙ e))

pub returns-in-None-clause-reads : goal.returns-in-None-clause-reads
returns-in-None-clause-reads c = fails_as _ _ _ c.refuse-in-None.ensures
    (token_not (is c.args.wanted) _ (none_begins (is c.args.wanted) _ c.in-None.ensures.cases))
