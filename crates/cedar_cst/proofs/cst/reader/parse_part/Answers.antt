use Rattle.std.proofs.Common.{arith, subst, Ok, Err}
use Rattle.cedar_grammar.specs.Texts.{greatest_depth}
use Rattle.cedar_grammar.specs.Reader.Lines.{set_to}
use Rattle.cedar_reading.specs.Reading.{kind}
use Rattle.cedar_cst.specs.Inside.ReadingSet.{GivesSet}
use Rattle.cedar_cst.proofs.Moved.{lexeme_inside, part_tree, part_grammar, part_deep}
use Rattle.cedar_cst.proofs.cst.reader.parse_part.Goals as goal

pub move_spans-requires-clause-starts : goal.move_spans-requires-clause-starts
move_spans-requires-clause-starts c = λ k d h.
    let b = lexeme_inside c.args.part.now c.args.lexemes.now c.requires.lexemes k d h in
    omega (arith, b.0, b.1, c.requires.order, c.requires.room)

pub move_spans-requires-clause-ends : goal.move_spans-requires-clause-ends
move_spans-requires-clause-ends c = λ k d h.
    let b = lexeme_inside c.args.part.now c.args.lexemes.now c.requires.lexemes k d h in
    omega (arith, b.1, c.requires.order, c.requires.room)

pub returns-in-Ok-clause-policies : goal.returns-in-Ok-clause-policies
returns-in-Ok-clause-policies c =
    let by = c.args.by in
    let p = c.in-Ok.policies in
    part_tree by c.args.part.now c.args.lexemes.now c.requires.lexemes p (subst
    (λ z. GivesSet (Ok p) (set_to kind greatest_depth z)) c.move_spans.ensures c.in-Ok.ensures)

pub overflow_add-result : goal.overflow_add-result
overflow_add-result c =
    let by = c.args.by in
    let tokens = c.move_spans.new.lexemes in
    let e = c.in-Err-Grammar in
    let r = part_grammar by c.args.part.now c.args.lexemes.now c.requires.lexemes tokens e.left
    c.place.result c.move_spans.ensures c.place.ensures
    (subst (λ z. GivesSet (Err z) (set_to kind greatest_depth tokens)) e.field-0-is e.ensures) in
    omega (arith, r.1, r.3, c.requires.order, c.requires.room)

pub returns-in-Err-Grammar-clause-policies : goal.returns-in-Err-Grammar-clause-policies
returns-in-Err-Grammar-clause-policies c =
    let by = c.args.by in
    let tokens = c.move_spans.new.lexemes in
    let e = c.in-Err-Grammar in
    let r = part_grammar by c.args.part.now c.args.lexemes.now c.requires.lexemes tokens e.left
    c.place.result c.move_spans.ensures c.place.ensures
    (subst (λ z. GivesSet (Err z) (set_to kind greatest_depth tokens)) e.field-0-is e.ensures) in
    (r.0, omega (arith, r.1, c.requires.order), r.2)

pub overflow_add-result-in-Err-TooDeep : goal.overflow_add-result-in-Err-TooDeep
overflow_add-result-in-Err-TooDeep c =
    let by = c.args.by in
    let tokens = c.move_spans.new.lexemes in
    let e = c.in-Err-TooDeep in
    let r = part_deep by c.args.part.now c.args.lexemes.now c.requires.lexemes tokens e.left
    c.place-in-Err-TooDeep.result c.move_spans.ensures c.place-in-Err-TooDeep.ensures
    (subst (λ z. GivesSet (Err z) (set_to kind greatest_depth tokens)) e.field-0-is e.ensures) in
    omega (arith, r.1, r.3, c.requires.order, c.requires.room)

pub returns-in-Err-TooDeep-clause-policies : goal.returns-in-Err-TooDeep-clause-policies
returns-in-Err-TooDeep-clause-policies c =
    let by = c.args.by in
    let tokens = c.move_spans.new.lexemes in
    let e = c.in-Err-TooDeep in
    let r = part_deep by c.args.part.now c.args.lexemes.now c.requires.lexemes tokens e.left
    c.place-in-Err-TooDeep.result c.move_spans.ensures c.place-in-Err-TooDeep.ensures
    (subst (λ z. GivesSet (Err z) (set_to kind greatest_depth tokens)) e.field-0-is e.ensures) in
    (r.0, omega (arith, r.1, c.requires.order), r.2)
