use Rattle.std.proofs.Common.{◌<◌}
use Rattle.cedar_settings.proofs.translation.block_at.Given as goal

abbrev pub invariant-loop-n : goal.invariant-loop-n
invariant-loop-n l = 0 < l.size
