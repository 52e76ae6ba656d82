use Rattle.std.proofs.Common.{sym, subst, ◌∙◌}
use Rattle.cedar_cst.specs.Inside.Parts.{IsNext}
use Rattle.cedar_cst.specs.PolicyReaders.{Position, HasEnded, HasRead}
use Rattle.cedar_cst.proofs.Readers.{read_all, read_more, reader_goes_on}
use Rattle.cedar_cst.proofs.cst.reader.PolicyReader.next.Goals as goal

pub invariant_of-self : goal.invariant_of-self
invariant_of-self c =
    let piece = c.in-Some.piece in
    let answer = rw c.in-Some.is at c.in_ok-piece.ensures.answer in
    reader_goes_on c.self.inside.text.now c.self.inside.at c.self.inside.at piece.text.now
    piece.policy c.self.invariant
    (subst (λ (z : Position). IsNext z piece.text.now) (sym c.self.view_is) answer.0) answer.1

pub returns-in_default-clause-answer : goal.returns-in_default-clause-answer
returns-in_default-clause-answer c = λ all ps r.
    let ended = rw c.in_default.is at c.in_ok-piece.ensures.answer in
    read_all c.self.inside.text.now c.self.inside.at ps all (subst
    (λ (z : Position). HasRead z all ps) (sym c.take_room-room.ensures ∙ sym c.self.view_is) r)
    (subst HasEnded (sym c.self.view_is) ended)

pub returns-clause-answer : goal.returns-clause-answer
returns-clause-answer c = λ all ps r.
    let piece = c.in-Some.piece in
    let answer = rw c.in-Some.is at c.in_ok-piece.ensures.answer in
    read_more c.self.inside.text.now c.self.inside.at piece.text.now ps piece.policy all (subst
    (λ (z : Position). HasRead z all ps) (sym c.take_room-room.ensures ∙ sym c.self.view_is) r)
    (subst (λ (z : Position). IsNext z piece.text.now) (sym c.self.view_is) answer.0) answer.1
