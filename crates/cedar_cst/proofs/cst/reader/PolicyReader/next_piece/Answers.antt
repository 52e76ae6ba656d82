use Rattle.std.proofs.Common.{sym, subst, ◌∙◌}
use Rattle.cedar_reading.specs.Lexemes.{AreLexemes}
use Rattle.cedar_cst.proofs.Moved.{unmoved}
use Rattle.cedar_cst.specs.Inside.Parts.{IsNext}
use Rattle.cedar_cst.specs.PolicyReaders.{Position}
use Rattle.cedar_cst.proofs.PartLaws.{from_start}
use Rattle.cedar_cst.proofs.Readers.{reader_goes_on}
use Rattle.cedar_cst.proofs.cst.reader.PolicyReader.next_piece.Goals as goal

pub invariant_of-self : goal.invariant_of-self
invariant_of-self c =
    let piece = c.in-Some.piece in
    let answer = rw c.in-Some.is at c.in_ok-piece.ensures.answer in
    reader_goes_on c.self.inside.text.now c.self.inside.at 0 piece.text.now piece.policy
    c.self.invariant
    (subst (λ (z : Position). IsNext z piece.text.now) (sym c.self.view_is) answer.0) answer.1

pub returns-clause-policy : goal.returns-clause-policy
returns-clause-policy c =
    let text = c.in-Some.piece.text.now in
    let answer = rw c.in-Some.is at c.in_ok-piece.ensures.answer in
    let p = answer.1 in (
      p.0,
      (c.tree_has_the_policies.ensures text p.0).0 (from_start text p.0.policies.items p.1),
      p.2,
    )

pub commented_tokens-requires : goal.commented_tokens-requires
commented_tokens-requires c =
    let own = rw c.in-Some.is at c.in_ok-piece.ensures.lexemes in
    subst (AreLexemes c.in-Some.piece.text.now)
    (unmoved own.0 ∙ (sym own.2 ∙ sym c.deref.ensures.value)) own.1
