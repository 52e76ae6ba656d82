use Rattle.std.proofs.Common.{sym, ◌∙◌}
use Rattle.cedar_tokens.specs.Kinds.{is_comparison}
use Rattle.cedar_reading.proofs.Steps.{first_begins, none_begins, token_at, token_not, fails_as}
use Rattle.cedar_reading.proofs.signs.parse_comparison_sign.Goals as goal

pub returns-in-Some-comparison_of-clause-reads : goal.returns-in-Some-comparison_of-clause-reads
returns-in-Some-comparison_of-clause-reads c =
    let o = c.in-Some-comparison_of.ensures in (
      c.in-Some.first.now,
      token_at is_comparison _ _ _ c.in-Some.ensures.cases.0 (sym o.tells),
      sym o.which,
    )

pub returns-in-None-comparison_of-clause-reads : goal.returns-in-None-comparison_of-clause-reads
returns-in-None-comparison_of-clause-reads c =
    fails_as _ _ _ c.refuse.ensures (token_not is_comparison _ (first_begins is_comparison _ _ _
    c.in-Some.ensures.cases.0 ∙ sym c.in-None-comparison_of.ensures.tells))

pub returns-in-None-clause-reads : goal.returns-in-None-clause-reads
returns-in-None-clause-reads c = fails_as _ _ _ c.refuse-in-None.ensures
    (token_not is_comparison _ (none_begins is_comparison _ c.in-None.ensures.cases))
