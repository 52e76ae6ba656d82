use Rattle.std.proofs.Common.{◌≤◌, length, ◌∙◌, arith}
use Rattle.cedar_faults.proofs.Passing.{nonempty, from_start}
use Rattle.cedar_faults.proofs.Lines.{in_line_unit, in_line_character}
use Rattle.cedar_faults.proofs.recovery.first_in_line.Goals.{in-Some, in-None}
use Rattle.cedar_faults.proofs.recovery.first_in_line.Goals as goal

pub returns : goal.returns
returns c =
    let line = c.args.line.now in
    let n : 1 ≤ length line = nonempty line c.requires.some in
    rw (c.range.ensures.value ∙ from_start line c.match-first_unit_len.len)
    (elim c.match-first_unit_len.branch [
      | in-Some w ↦ rw w.len-is (in_line_unit line w.in-Some.len (rw w.in-Some.is at c.first_unit_len.ensures.unit))
      | in-None w ↦
          let e = w.ceil_char_boundary-len.ensures in
          rw w.len-is (in_line_character line w.ceil_char_boundary-len.result
          (rw w.in-None.is at c.first_unit_len.ensures.unit)
          (record { after = omega (arith, e.bound n); boundary = e.boundary; nearest = λ i a b. e.nearest i (omega (arith, a)) b })
          (omega (arith, e.boundary)))
    ])
