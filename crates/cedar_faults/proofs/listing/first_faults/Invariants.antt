use Rattle.std.proofs.Common.{◌≡◌, ◌≤◌, ◌-◌, length}
use Rattle.cedar_faults.specs.Faults.{SearchFinds}
use Rattle.cedar_faults.proofs.listing.first_faults.Given as goal

-- a search has found the faults so far
abbrev pub invariant-first : goal.invariant-first
invariant-first l = record {
  of_text : l.reader.text ≡ l.text;
  count : length l.first.items ≤ l.limit;
  passed : SearchFinds l.text 0 l.first.items l.reader.at;
}

abbrev pub decreases-first : goal.decreases-first
decreases-first l = length l.text - l.reader.at
