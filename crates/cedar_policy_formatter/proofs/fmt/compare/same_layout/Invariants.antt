use Rattle.std.proofs.Common.{◌≡◌, ◌-◌, length}
use Rattle.cedar_policy_formatter.proofs.EqualLists.{Compared}
use Rattle.cedar_policy_formatter.proofs.fmt.compare.same_layout.Given as goal

-- the texts stay, and have been compared so far
abbrev pub invariant-pieces : goal.invariant-pieces
invariant-pieces l = record {
  first_text : l.first.text ≡ l.fn.a;
  second_text : l.second.text ≡ l.fn.b;
  compared : Compared l.same l.first.text l.first.at l.second.text l.second.at;
}

abbrev pub decreases-pieces : goal.decreases-pieces
decreases-pieces l = length l.first.text - l.first.at
