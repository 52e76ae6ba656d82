use Rattle.cedar_edits.proofs.Returning.{HasReturnsSoFar}
use Rattle.cedar_edits.proofs.returns.has_returns.Given as goal

abbrev pub invariant-loop-i : goal.invariant-loop-i
invariant-loop-i l = HasReturnsSoFar l.bytes l.i l.has_feed
