use Rattle.std.proofs.Common.{◌∙◌, sym}
use Rattle.cedar_tokens.specs.Kinds.{is}
use Rattle.cedar_reading.proofs.Steps.{kind_test, first_begins}
use Rattle.cedar_reading.proofs.reading.begins.Goals as goal

pub returns-in-Some : goal.returns-in-Some
returns-in-Some c = c.eq.ensures ∙ kind_test _ _
    ∙ sym (first_begins (is c.args.wanted) _ _ _ c.in-Some.ensures.cases.0)
