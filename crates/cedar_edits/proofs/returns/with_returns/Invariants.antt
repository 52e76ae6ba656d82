use Rattle.std.proofs.Common.{string_bytes}
use Rattle.cedar_edits.proofs.Returning.{IsReturned}
use Rattle.cedar_edits.proofs.returns.with_returns.Given as goal

abbrev pub invariant-loop-i : goal.invariant-loop-i
invariant-loop-i l = IsReturned l.text l.from l.i (string_bytes l.result)
