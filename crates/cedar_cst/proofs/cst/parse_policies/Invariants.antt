use Rattle.std.proofs.Common.{◌-◌, length}
use Rattle.cedar_cst.specs.PolicyReaders.{HasRead}
use Rattle.cedar_cst.proofs.cst.parse_policies.Given as goal

abbrev pub invariant-policies : goal.invariant-policies
invariant-policies l = HasRead l.reader l.fn.text l.policies.items

abbrev pub decreases-policies : goal.decreases-policies
decreases-policies l = length l.reader.text - l.reader.at
