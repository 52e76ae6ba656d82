use Rattle.cedar_laws.proofs.Assembled.{choices_agree}
use Rattle.cedar_laws.proofs.PrintedPolicies.{law_of_gaps}
use Rattle.cedar_laws.proofs.laws.every_gap_holds.Goals as goal

pub returns-clause-gaps : goal.returns-clause-gaps
returns-clause-gaps c = law_of_gaps

pub returns-clause-choices : goal.returns-clause-choices
returns-clause-choices c = choices_agree
