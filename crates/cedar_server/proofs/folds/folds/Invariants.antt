use Rattle.std.proofs.Common.{◌≡◌, ◌≤◌, length, drop}
use denote.Text.{Utf8}
use denote.Shadow.{shadow}
use Rattle.cedar_server.proofs.Folding.{NodesSoFar}
use Rattle.cedar_server.proofs.folds.folds.Given as goal

abbrev pub invariant-sections : goal.invariant-sections
invariant-sections l = record {
  utf8 : shadow (Utf8 l.rest);
  inside : l.from ≤ length l.text;
  left : l.rest ≡ drop l.from l.text;
  so_far : NodesSoFar l.text l.from l.folds.items;
}

abbrev pub decreases-sections : goal.decreases-sections
decreases-sections l = length l.rest
