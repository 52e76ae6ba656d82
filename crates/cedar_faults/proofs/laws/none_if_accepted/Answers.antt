use Rattle.cedar_faults.proofs.Furthest.{none_if_accepted, first_none_if_accepted}
use Rattle.cedar_faults.proofs.laws.none_if_accepted.Goals as goal

pub returns-clause-all : goal.returns-clause-all
returns-clause-all c = none_if_accepted

pub returns-clause-first : goal.returns-clause-first
returns-clause-first c = first_none_if_accepted
