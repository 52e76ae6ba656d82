use Rattle.cedar_written.proofs.Judged.{text_is_judged, accepted_is_not_refused, refusal_is_unique}
use Rattle.cedar_written.proofs.laws.texts_are_judged.Goals as goal

pub returns-clause-some : goal.returns-clause-some
returns-clause-some c = text_is_judged

pub returns-clause-either : goal.returns-clause-either
returns-clause-either c = accepted_is_not_refused

pub returns-clause-one : goal.returns-clause-one
returns-clause-one c = refusal_is_unique
