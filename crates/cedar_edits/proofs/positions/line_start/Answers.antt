use Rattle.std.proofs.Common.{◌≡◌, length, ap, subst, ◌∙◌, arith}
use Rattle.std.proofs.lemmas.Str.{IsCharBoundary-after_ascii, IsCharBoundary-start}
use Rattle.cedar_edits.specs.Positions.{BeginsLine, lines_before}
use Rattle.cedar_edits.specs.Inside.Ends.{IsNextEnd}
use Rattle.cedar_edits.proofs.LineStarts.{BeginsLine-next, ends_line-ascii, line_zero}
use Rattle.cedar_edits.proofs.positions.line_start.Goals as goal

pub loop-init : goal.loop-init
loop-init c = (line_zero c.args.text.now, IsCharBoundary-start c.args.text.now c.utf8.text)

pub next_end-requires-clause-order : goal.next_end-requires-clause-order
next_end-requires-clause-order c =
    omega (arith, c.loop.invariant.0.within, ap length c.as_bytes-bytes.ensures.value)

pub returns-in_err-start-clause-start : goal.returns-in_err-start-clause-start
returns-in_err-start-clause-start c =
    let same : lines_before c.args.text.now (length c.args.text.now) ≡ lines_before c.args.text.now c.loop.start =
    subst (λ t. lines_before t (length t) ≡ lines_before t c.loop.start) c.as_bytes-bytes.ensures.value c.in_err-start.ensures in
    rw c.from_residual.ensures (omega (arith, same, c.loop.invariant.0.lines, c.loop-test.true))

pub loop-preserved : goal.loop-preserved
loop-preserved c =
    let text = c.args.text.now in
    let e : IsNextEnd text c.loop.start (length text) c.in_ok-start.field-0 =
    subst (λ t. IsNextEnd t c.loop.start (length t) c.in_ok-start.field-0) c.as_bytes-bytes.ensures.value c.in_ok-start.ensures in (
      BeginsLine-next text c.loop.counter c.in_ok-start.field-0 e.before (e.first ∙ c.loop.invariant.0.lines) e.ends,
      IsCharBoundary-after_ascii text c.in_ok-start.field-0 c.utf8.text e.before (ends_line-ascii text c.in_ok-start.field-0 e.ends),
    )

pub returns-clause-start : goal.returns-clause-start
returns-clause-start c =
    subst (λ n. BeginsLine c.args.text.now n c.loop.start) (omega (arith, c.loop-test.false, c.loop.auto.counter-end)) c.loop.invariant.0

pub returns-clause-boundary : goal.returns-clause-boundary
returns-clause-boundary c = c.loop.invariant.1
