use Rattle.std.proofs.Common.{◌∙◌, arith}
use Rattle.cedar_edits.specs.Inside.Ends.{IsNextEnd}
use Rattle.cedar_edits.proofs.LineStarts.{BeginsLine-next, lines_before-within}
use Rattle.cedar_edits.proofs.positions.walk.Goals as goal

pub overflow_add-line : goal.overflow_add-line
overflow_add-line c =
    let e : IsNextEnd c.args.bytes.now c.lines.line.start c.args.at c.in-Some.end =
    rw c.in-Some.is at c.next_end.ensures in
    let b = c.lines.invariant.0 in
    omega (
      arith,
      e.before,
      b.lines,
      lines_before-within c.args.bytes.now c.lines.line.start,
      e.after,
      c.requires.inside,
      c.ranges.at.fits,
    )

pub lines-preserved : goal.lines-preserved
lines-preserved c =
    let text = c.args.bytes.now in
    let e : IsNextEnd text c.lines.line.start c.args.at c.in-Some.end =
    rw c.in-Some.is at c.next_end.ensures in
    let b = c.lines.invariant.0 in (
      BeginsLine-next text c.lines.line.number c.in-Some.end
          (omega (arith, e.before, c.requires.inside)) (e.first ∙ b.lines) e.ends,
      omega (arith, e.before),
    )
