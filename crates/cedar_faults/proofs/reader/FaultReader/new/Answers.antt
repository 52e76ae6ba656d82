use Rattle.std.proofs.Common.{arith, rules}
use Rattle.std.proofs.lemmas.Str.{IsCharBoundary-from_drop}
use Rattle.cedar_faults.proofs.reader.FaultReader.new.Goals as goal

pub invariant_of-result : goal.invariant_of-result
invariant_of-result c = record {
  inside = omega arith;
  boundary = IsCharBoundary-from_drop c.args.text.now 0 (omega arith) c.utf8.text;
  size = search rules;
}
