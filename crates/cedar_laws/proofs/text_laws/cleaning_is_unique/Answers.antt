use Rattle.cedar_laws.proofs.Cutting.{cleaned_exists, cleaned_once}
use Rattle.cedar_laws.proofs.text_laws.cleaning_is_unique.Goals as goal

pub returns-clause-some : goal.returns-clause-some
returns-clause-some c = cleaned_exists

pub returns-clause-one : goal.returns-clause-one
returns-clause-one c = cleaned_once
