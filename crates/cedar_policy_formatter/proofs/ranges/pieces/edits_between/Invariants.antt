use Rattle.std.proofs.Common.{◌-◌, ◌≤◌, drop}
use Rattle.std.specs.Str.{IsCharBoundary}
use Rattle.cedar_edits.specs.Laws.{CanBeNamed}
use Rattle.cedar_edits.proofs.Turning.{IsTurned}
use Rattle.cedar_policy_formatter.proofs.ranges.pieces.edits_between.Given as goal

abbrev pub invariant-pieces : goal.invariant-pieces
invariant-pieces l = record {
  order : l.span.start ≤ l.at;
  inside : l.at ≤ l.span.end;
  named : CanBeNamed l.text l.at;
  boundary : IsCharBoundary l.new l.from;
  turned : IsTurned l.text l.span l.new l.edits.items l.at (drop l.from l.new);
}

abbrev pub decreases-pieces : goal.decreases-pieces
decreases-pieces l = l.span.end - l.at
