use Rattle.cedar_print.proofs.Cleaned.{clean_layouts_are_cleaned}
use Rattle.cedar_print.proofs.laws.clean_layouts_are_cleaned.Goals as goal

pub returns : goal.returns
returns c = clean_layouts_are_cleaned
