use Rattle.std.proofs.Common.{arith, inl}
use Rattle.cedar_faults.proofs.Ending.{last_nonempty}
use Rattle.cedar_faults.proofs.marks.last_character.Goals as goal

pub overflow_sub-result : goal.overflow_sub-result
overflow_sub-result c =
    let l = c.in-Some.ensures in
    let n = last_nonempty l.0 c.in-Some.end l.2 in
    omega (arith, n)

pub returns-in-Some : goal.returns-in-Some
returns-in-Some c =
    let l = c.in-Some.ensures in
    let n = last_nonempty l.0 c.in-Some.end l.2 in
    (l.0, l.1, inl (l.2, omega (arith, n)))
