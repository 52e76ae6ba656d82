use Rattle.std.proofs.Common.{◌+◌, length, arith}
use Rattle.cedar_faults.proofs.Passing.{stops_at_end}
use Rattle.cedar_faults.proofs.Lines.{feed_passed, in_text, line_ends, line_of, semicolon_stops}
use Rattle.cedar_faults.proofs.recovery.resume.Goals as goal

pub overflow_add-result : goal.overflow_add-result
overflow_add-result c =
    let line = c.first_line-line.result.now in
    let f = line_of c.args.text.now c.range_from.result.now line c.lines.end c.range_from.ensures.value c.first_line-line.ensures in
    let l = in_text c.args.text.now line c.args.at c.lines.end c.utf8.text c.lines.invariant f c.in-Some.len c.in-Some.ensures.inside in
    omega (arith, l, c.range_from.ensures.len)

pub returns-in-Some : goal.returns-in-Some
returns-in-Some c =
    let line = c.first_line-line.result.now in
    let f = line_of c.args.text.now c.range_from.result.now line c.lines.end c.range_from.ensures.value c.first_line-line.ensures in
    semicolon_stops c.args.text.now line c.args.at c.lines.end c.utf8.text c.lines.invariant f c.in-Some.len c.in-Some.ensures

pub returns-then-end-text : goal.returns-then-end-text
returns-then-end-text c =
    let text = c.args.text.now in
    let line = c.first_line-line.result.now in
    let f = line_of text c.range_from.result.now line c.lines.end c.range_from.ensures.value c.first_line-line.ensures in
    let e = line_ends text line c.args.at c.lines.end c.utf8.text c.lines.invariant f c.in_default.ensures in
    stops_at_end text c.args.at (c.lines.end + length line) e.0 (omega (arith, c.if-end-text.true))

pub lines-preserved : goal.lines-preserved
lines-preserved c =
    let text = c.args.text.now in
    let line = c.first_line-line.result.now in
    let f = line_of text c.range_from.result.now line c.lines.end c.range_from.ensures.value c.first_line-line.ensures in
    let e = line_ends text line c.args.at c.lines.end c.utf8.text c.lines.invariant f c.in_default.ensures in
    feed_passed text f.tail c.args.at (c.lines.end + length line) c.utf8.text e.0 e.1 f.follows c.if-end-text.false
