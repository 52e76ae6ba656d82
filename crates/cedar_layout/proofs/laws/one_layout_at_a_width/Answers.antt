use Rattle.cedar_layout.proofs.Choices.{exactly_one_choice}
use Rattle.cedar_layout.proofs.laws.one_layout_at_a_width.Goals as goal

pub returns : goal.returns
returns c = exactly_one_choice
