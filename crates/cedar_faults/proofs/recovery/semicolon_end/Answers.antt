use Rattle.std.proofs.Common.{◌≢◌}
use Rattle.std.specs.Prelude.{codes}
use Rattle.std.proofs.lemmas.Bool.Decides.{Decides-eqb}
use Rattle.std.proofs.lemmas.Slice.Eq.{slice_eq-Decides}
use Rattle.cedar_faults.proofs.Lines.{line_start, semicolon_found, line_further, line_goes_on}
use Rattle.cedar_faults.proofs.recovery.semicolon_end.Goals as goal

pub loop-at-init : goal.loop-at-init
loop-at-init c = line_start c.args.line.now c.utf8.line

pub first_in_line-passed-requires-clause-none_ends :
    goal.first_in_line-passed-requires-clause-none_ends
first_in_line-passed-requires-clause-none_ends c = rw c.range_from.ensures.value c.loop-at.invariant.unended

pub returns-then-eq : goal.returns-then-eq
returns-then-eq c =
    let same = slice_eq-Decides Decides-eqb c.first_in_line-passed.result.now _ c.eq.result c.eq.ensures in
    semicolon_found c.args.line.now c.range_from.result.now c.first_in_line-passed.result.now c.loop-at.at c.loop-at.is_open
    c.utf8.line c.requires c.loop-at.invariant c.range_from.ensures.value c.first_in_line-passed.ensures (same.0 c.if-eq.true)

pub loop-at-smaller : goal.loop-at-smaller
loop-at-smaller c =
    line_further c.args.line.now c.range_from.result.now c.first_in_line-passed.result.now c.loop-at.at c.loop-at.is_open
    c.utf8.line c.requires c.loop-at.invariant c.range_from.ensures.value c.first_in_line-passed.ensures

pub loop-at-preserved : goal.loop-at-preserved
loop-at-preserved c =
    let passed = c.first_in_line-passed.result.now in
    let same = slice_eq-Decides Decides-eqb passed _ c.eq.result c.eq.ensures in
    let quote = slice_eq-Decides Decides-eqb passed _ c.eq-is_open.result c.eq-is_open.ensures in
    let other : passed ≢ codes ";" = λ e. (let t = same.1 e in let f = c.if-eq.false in cc) in
    line_goes_on c.args.line.now c.range_from.result.now passed c.loop-at.at c.loop-at.is_open
    c.utf8.line c.requires c.loop-at.invariant c.range_from.ensures.value c.first_in_line-passed.ensures
    c.eq-is_open.result quote.0 other
