use Rattle.std.proofs.Common.{arith}
use Rattle.std.proofs.lemmas.Str.Pattern.{starts_char}
use Rattle.cedar_files.proofs.ExcludeLemmas.{above_is}
use Rattle.cedar_files.proofs.excludes.Excludes.leaves_above.Goals as goal

pub returns-clause-left : goal.returns-clause-left
returns-clause-left c =
    let rest = c.in-Some.rest.now in
    let slash = starts_char 47 rest c.starts_with.result c.starts_with.ensures.cases (omega arith) (omega arith) in
    above_is c.args.self.now c.args.path.now c.args.at c.in-Some.above.now rest c.leaves.result
    c.in-Some.ensures.front c.in-Some.ensures.back (slash.0 cc) c.leaves.ensures.left
