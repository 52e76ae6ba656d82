use Rattle.cedar_layout.proofs.Seeking.{cut_after, first_line, only_line}
use Rattle.cedar_layout.proofs.utils.cleaning.split_line.Goals as goal

pub split_at-requires : goal.split_at-requires
split_at-requires c = cut_after c.args.text.now c.in-Some.at c.utf8.text
    (rw c.as_bytes.ensures.value at c.in-Some.ensures)

pub returns-in-Some-clause-line : goal.returns-in-Some-clause-line
returns-in-Some-clause-line c =
    first_line c.args.text.now c.split_at.result.0.now c.split_at.result.1.now c.in-Some.at
    (rw c.as_bytes.ensures.value at c.in-Some.ensures) c.split_at.ensures.front
    c.split_at.ensures.back

pub returns-in-None-clause-line : goal.returns-in-None-clause-line
returns-in-None-clause-line c =
    only_line c.args.text.now (rw c.as_bytes.ensures.value at c.in-None.ensures)
