use Rattle.std.proofs.Common.{}
use Rattle.std.specs.Str.{IsCharBoundary}
use Rattle.cedar_edits.specs.Positions.{BeginsLine}
use Rattle.cedar_edits.proofs.positions.line_start.Given as goal

abbrev pub invariant-loop : goal.invariant-loop
invariant-loop l = BeginsLine l.text l.counter l.start × IsCharBoundary l.text l.start
