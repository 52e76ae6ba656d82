use Rattle.std.proofs.Common.{arith}
use Rattle.cedar_reading.proofs.SignLaws.{leads_more}
use Rattle.cedar_reading.proofs.signs.past_signs.Goals as goal

pub signs-preserved : goal.signs-preserved
signs-preserved c =
    let i = c.signs.invariant in
    let t = c.skip.ensures.token.2 c.if-not-skip.false in (
      omega (arith, c.signs-test.true),
      omega (arith, i.1, c.skip.ensures.shorter),
      leads_more _ _ _ _ t.0 _ i.2 t.1 t.2,
    )
