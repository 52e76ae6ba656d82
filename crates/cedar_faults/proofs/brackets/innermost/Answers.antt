use Rattle.std.proofs.Common.{◌∙◌, arith, sym}
use Rattle.cedar_faults.proofs.Bracketing.{closed_here, found_here, no_more}
use Rattle.cedar_faults.proofs.brackets.innermost.Goals as goal

pub returns-then-closed-eq0 : goal.returns-then-closed-eq0
returns-then-closed-eq0 c =
    found_here c.args.brackets.now c.loop-i.i c.loop-i.closed _ (omega arith) (omega arith) c.loop-i.invariant.none
    (sym c.is_opening.ensures ∙ c.if-not-is_opening.false) (omega arith)

pub loop-i-preserved : goal.loop-i-preserved
loop-i-preserved c = record {
  none = closed_here c.args.brackets.now c.loop-i.i c.loop-i.closed _ (omega arith) (omega arith) c.loop-i.invariant.none
      (sym c.is_opening.ensures ∙ c.if-not-is_opening.false) c.if-closed-eq0.false;
  few = no_more c.args.brackets.now c.loop-i.i c.loop-i.closed c.loop-i.invariant.few;
}
