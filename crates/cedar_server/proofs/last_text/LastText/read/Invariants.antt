use Rattle.std.proofs.Common.{◌≡◌, ◌≤◌, ◌-◌, length}
use Rattle.std.specs.List.{All}
use Rattle.cedar_server.specs.Diagnoses.{most}
use Rattle.cedar_server.proofs.Told.{Told}
use Rattle.cedar_server.specs.Inside.Standing.{StandsAt}
use Rattle.cedar_server.proofs.last_text.LastText.read.Given as goal

-- a search has found the faults that are reported
abbrev pub invariant-steps : goal.invariant-steps
invariant-steps l = record {
  of_text : l.reader.text ≡ l.fn.text;
  few : length l.diagnoses.items ≤ most;
  told : Told l.fn.encoding l.fn.text l.reader.at l.diagnoses.items;
  standing : All (StandsAt l.fn.text) l.initial.standing.items → All (StandsAt l.fn.text) l.standing.items;
}

abbrev pub decreases-steps : goal.decreases-steps
decreases-steps l = length l.fn.text - l.reader.at
