use Rattle.std.proofs.Common.{arith}
use Rattle.cedar_layout.proofs.Seeking.{none_more, none_all}
use Rattle.cedar_layout.proofs.utils.cleaning.find.Goals as goal

pub loop-start-preserved : goal.loop-start-preserved
loop-start-preserved c = record {
  not_before = let b = c.loop-start.invariant.not_before in omega arith;
  none = none_more c.args.sought c.args.text.now c.args.from c.loop-start.start
      c.loop-start.invariant.none c.in_default.ensures.len;
}

pub returns-clause-place : goal.returns-clause-place
returns-clause-place c = none_all c.args.sought c.args.text.now c.args.from c.loop-start.start
    c.loop-start.invariant.none c.loop-start-test.false
