use Rattle.std.proofs.Common.{inl, inr, arith}
use Rattle.std.proofs.lemmas.Bool.{cases_lt}
use Rattle.std.proofs.Common.{length, ◌<◌}
use Rattle.cedar_edits.proofs.CommonLines.{alike_line, alike_next, start_lines}
use Rattle.cedar_edits.proofs.lines.first_lines.Goals as goal
use Rattle.cedar_edits.proofs.lines.first_lines.Goals.{then-old-i-eq10, else-old-i-eq10}

pub returns-then-old-i : goal.returns-then-old-i
returns-then-old-i c = start_lines c.args.old.now c.args.new.now c.loop-i.lines c.loop-i.i
    c.loop-i.invariant (inr (inr c.if-old-i.true))

pub loop-i-preserved : goal.loop-i-preserved
loop-i-preserved c =
    let x = c.args.old.now in
    let y = c.args.new.now in
    let i = c.loop-i.i in
    let in_x : i < length x = omega arith in
    let in_y : i < length y = omega arith in
    elim c.if-old-i-eq10.branch [
      | then-old-i-eq10 w ↦ rw w.lines-is (alike_line x y c.loop-i.lines i c.loop-i.invariant in_x
          in_y c.if-old-i.false w.if-old-i-eq10.true)
      | else-old-i-eq10 w ↦ rw w.lines-is (alike_next x y c.loop-i.lines i c.loop-i.invariant in_x
          in_y c.if-old-i.false w.if-old-i-eq10.false)
    ]

pub returns : goal.returns
returns c =
    let x = c.args.old.now in
    let y = c.args.new.now in
    let i = c.loop-i.i in
    start_lines x y c.loop-i.lines i c.loop-i.invariant (elim (cases_lt i (length x)) [
      | inr past ↦ inl past
      | inl within ↦ inr (inl (omega arith))
    ])
