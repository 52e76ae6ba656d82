use Rattle.std.proofs.Common.{◌-◌, length}
use Rattle.cedar_edits.specs.Laws.{CanBeNamed}
use Rattle.cedar_policy_formatter.proofs.Progress.{TouchedSoFar}
use Rattle.cedar_policy_formatter.proofs.ranges.touched.touched_span.Given as goal

abbrev pub invariant-pieces : goal.invariant-pieces
invariant-pieces l = record {
  named : CanBeNamed l.text l.at;
  first : CanBeNamed l.text l.span.start;
  last : CanBeNamed l.text l.span.end;
  touched : TouchedSoFar l.text l.range l.span l.at;
}

abbrev pub decreases-pieces : goal.decreases-pieces
decreases-pieces l = length l.text - l.at
