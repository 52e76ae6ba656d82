use Rattle.cedar_reading.proofs.SignLaws.{bangs_give, dashes_give, no_signs_give}
use Rattle.cedar_reading.proofs.signs.read_signs.Goals as goal

pub returns-then-bangs-gt0-clause-reads : goal.returns-then-bangs-gt0-clause-reads
returns-then-bangs-gt0-clause-reads c = bangs_give _ c.past_signs-bangs.result.0
    c.past_signs-bangs.result.1 c.past_signs-bangs.ensures.signs c.if-bangs-gt0.true

pub returns-then-dashes-gt0-clause-reads : goal.returns-then-dashes-gt0-clause-reads
returns-then-dashes-gt0-clause-reads c = dashes_give _ c.past_signs-dashes.result.0
    c.past_signs-dashes.result.1 c.past_signs-dashes.ensures.signs c.if-dashes-gt0.true

pub returns-clause-reads : goal.returns-clause-reads
returns-clause-reads c =
    let a = c.past_signs-bangs.result in
    let b = c.past_signs-dashes.result in
    no_signs_give c.args.tokens a.0 b.0 a.1 b.1 c.past_signs-bangs.ensures.signs
    c.if-bangs-gt0.false c.past_signs-dashes.ensures.signs c.if-dashes-gt0.false
