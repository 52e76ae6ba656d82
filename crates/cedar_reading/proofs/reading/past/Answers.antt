use Rattle.std.proofs.Common.{◌∙◌, sym}
use Rattle.cedar_tokens.specs.Kinds.{is}
use Rattle.cedar_reading.proofs.Steps.{kind_test, kind_is, first_begins}
use Rattle.cedar_reading.proofs.reading.past.Goals as goal

pub returns-then-eq-clause-token : goal.returns-then-eq-clause-token
returns-then-eq-clause-token c = (
  c.in-Some.first.now,
  c.in-Some.ensures.cases.0,
  sym (kind_is _ _ (sym (c.eq.ensures ∙ kind_test _ _) ∙ c.if-eq.true)),
)

pub returns-else-eq-clause-token : goal.returns-else-eq-clause-token
returns-else-eq-clause-token c = first_begins (is c.args.wanted) _ _ _ c.in-Some.ensures.cases.0
    ∙ sym (c.eq.ensures ∙ kind_test _ _) ∙ c.if-eq.false
