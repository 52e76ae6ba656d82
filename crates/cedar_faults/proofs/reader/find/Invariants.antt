use Rattle.std.proofs.Common.{◌-◌, ◌≤◌, length, []}
use Rattle.cedar_faults.specs.Faults.{SearchFinds}
use Rattle.cedar_faults.specs.Inside.Searches.{IsInside}
use Rattle.cedar_faults.proofs.reader.find.Given as goal

-- only accepted policies were passed over
abbrev pub invariant-policies : goal.invariant-policies
invariant-policies l = record {
  inside : IsInside l.text l.from;
  order : l.at ≤ l.from;
  passed : SearchFinds l.text l.at [] l.from;
}

abbrev pub decreases-policies : goal.decreases-policies
decreases-policies l = length l.text - l.from
