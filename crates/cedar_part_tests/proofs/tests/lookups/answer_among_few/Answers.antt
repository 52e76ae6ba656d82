use Rattle.std.proofs.Common.{arith, length, ◌<◌}
use Rattle.cedar_part_tests.proofs.tests.lookups.answer_among_few.Goals as goal

pub returns-clause-one : goal.returns-clause-one
returns-clause-one g c e =
    let few : length c.args.tokens.now < 2 = omega arith in c.counted_answer.ensures.most 1 few

pub returns-clause-seven : goal.returns-clause-seven
returns-clause-seven g c e =
    let few : length c.args.tokens.now < 8 = omega arith in c.counted_answer.ensures.most 3 few

pub returns-clause-eight : goal.returns-clause-eight
returns-clause-eight g c e =
    let few : length c.args.tokens.now < 16 = omega arith in c.counted_answer.ensures.most 4 few
