use Rattle.std.proofs.Common.{◌≡◌, ◌-◌, length}
use Rattle.cedar_faults.specs.Faults.{SearchFinds}
use Rattle.cedar_faults.proofs.listing.faults.Given as goal

-- a search has found the faults so far
abbrev pub invariant-faults : goal.invariant-faults
invariant-faults l = record {
  of_text : l.reader.text ≡ l.text;
  passed : SearchFinds l.text 0 l.faults.items l.reader.at;
}

abbrev pub decreases-faults : goal.decreases-faults
decreases-faults l = length l.text - l.reader.at
