use Rattle.std.proofs.Common.{◌≡◌, ℕ, List, drop, length}
use denote.Shadow.{shadow}
use denote.Text.{Utf8}
use Rattle.cedar_policy_formatter.proofs.Piecewise.{LaidOut, TellsEmpty}
use Rattle.cedar_policy_formatter.proofs.fmt.write_policies.Given as goal

-- what was taken is laid out so far
abbrev pub invariant-pieces : goal.invariant-pieces
invariant-pieces g l = record {
  at : ℕ;
  utf8 : shadow (Utf8 l.rest);
  left : l.rest ≡ drop at l.fn.ps;
  out : List ℕ;
  taken : g.S.Sink.takes l.fn.sink out l.sink;
  empty : TellsEmpty l.is_empty out;
  laid : LaidOut l.fn.config.line_width l.fn.config.indent_width l.fn.ps at out;
}

abbrev pub decreases-pieces : goal.decreases-pieces
decreases-pieces g l = length l.rest
