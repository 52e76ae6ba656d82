use Rattle.cedar_written.proofs.Cleaning.{cleanings_agree}
use Rattle.cedar_written.proofs.laws.cleaning_is_by_units.Goals as goal

pub returns : goal.returns
returns c = cleanings_agree
