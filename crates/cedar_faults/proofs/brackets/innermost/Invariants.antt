use Rattle.std.proofs.Common.{◌≤◌, drop, length}
use Rattle.cedar_faults.proofs.Bracketing.{NoneOpen}
use Rattle.cedar_faults.proofs.brackets.innermost.Given as goal

-- none of the brackets from here on is open
abbrev pub invariant-loop-i : goal.invariant-loop-i
invariant-loop-i l = record {
  none : NoneOpen (drop l.i l.brackets) l.closed;
  few : l.closed ≤ length (drop l.i l.brackets);
}
