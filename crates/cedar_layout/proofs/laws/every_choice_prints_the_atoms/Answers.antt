use Rattle.cedar_layout.proofs.Atoms.{choice_is_text}
use Rattle.cedar_layout.proofs.laws.every_choice_prints_the_atoms.Goals as goal

pub returns : goal.returns
returns c = choice_is_text
