use Rattle.cedar_layout.proofs.Width.{layout_keeps_width}
use Rattle.cedar_layout.proofs.laws.wide_lines_are_broken.Goals as goal

pub returns : goal.returns
returns c = layout_keeps_width
