use Rattle.std.proofs.Common.{arith}
use Rattle.cedar_faults.specs.Faults.SearchFinds.{nothing}
use Rattle.cedar_faults.proofs.reader.FaultReader.step.Goals as goal

pub take-requires : goal.take-requires
take-requires c = record {
  inside = c.self.invariant;
  order = omega arith;
  first = rw c.range_from.ensures.value at (rw c.in-Faulty.is at c.in_ok-len.ensures);
  passed = nothing c.self.inside.at;
}
