use Rattle.cedar_faults.proofs.Furthest.{not_after_refusal}
use Rattle.cedar_faults.proofs.laws.first_is_before_refusal.Goals as goal

pub returns : goal.returns
returns c = not_after_refusal
