use Rattle.std.proofs.Common.{rules}
use Rattle.cedar_settings.proofs.Below.{entries_of-below, entries_of-outside}
use Rattle.cedar_settings.proofs.decisions.entries_for.Goals as goal

pub returns-in_default : goal.returns-in_default
returns-in_default c =
    rw (entries_of-outside c.args.file.now c.args.path.now (rw c.as_str.ensures.value at c.in_default.ensures.cases))
    (search rules)

pub returns : goal.returns
returns c =
    let all = entries_of-below c.args.file.now c.args.path.now c.in-Some.below.now (rw c.as_str.ensures.value at c.in-Some.ensures.cases) in
    rw all (search rules)
