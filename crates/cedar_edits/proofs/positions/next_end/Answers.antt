use Rattle.std.proofs.Common.{◌≡◌, ◌+◌, ◌-◌, ap, sym, ◌∙◌, arith}
use Rattle.cedar_edits.specs.Positions.{lines_before}
use Rattle.cedar_edits.proofs.LineStarts.{length-slice, lines_before-others, lines_before-same}
use Rattle.cedar_edits.proofs.positions.next_end.Goals as goal

-- what the search found, and what it skipped
pub returns-then-ends_line : goal.returns-then-ends_line
returns-then-ends_line c =
    let found = c.in-Some.ensures in
    let long = length-slice c.args.bytes.now c.candidates.at c.args.to c.candidates.invariant.1 c.requires.inside in
    let same = lines_before-others c.args.bytes.now c.candidates.at c.args.to c.in-Some.skipped c.candidates.invariant.1 (omega (arith, found.0.high, long)) found.0.before in
    record {
      after = omega (arith, c.candidates.invariant.0);
      before = omega (arith, c.candidates.invariant.1, found.0.high, long);
      ends = sym c.if-ends_line.ensures;
      first = same ∙ c.candidates.invariant.2;
    }

pub candidates-preserved : goal.candidates-preserved
candidates-preserved c =
    let found = c.in-Some.ensures in
    let long = length-slice c.args.bytes.now c.candidates.at c.args.to c.candidates.invariant.1 c.requires.inside in
    let same = lines_before-others c.args.bytes.now c.candidates.at c.args.to c.in-Some.skipped c.candidates.invariant.1 (omega (arith, found.0.high, long)) found.0.before in (
      omega (arith, c.candidates.invariant.0),
      omega (arith, c.candidates.invariant.1, found.0.high, long),
      lines_before-same c.args.bytes.now (c.candidates.at + c.in-Some.skipped) (sym c.if-ends_line.ensures) ∙ same ∙ c.candidates.invariant.2,
    )

pub returns : goal.returns
returns c =
    let long = length-slice c.args.bytes.now c.candidates.at c.args.to c.candidates.invariant.1 c.requires.inside in
    let end : c.candidates.at + (c.args.to - c.candidates.at) ≡ c.args.to = omega (arith, c.candidates.invariant.1) in
    ap (lines_before c.args.bytes.now) (sym end) ∙ lines_before-others c.args.bytes.now c.candidates.at c.args.to (c.args.to - c.candidates.at) c.candidates.invariant.1 (omega arith)
    (λ k l b. c.in_default.ensures k l (omega (arith, b, long))) ∙ c.candidates.invariant.2
