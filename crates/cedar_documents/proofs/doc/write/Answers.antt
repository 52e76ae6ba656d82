use Rattle.std.proofs.Common.{sym, subst, true, false, ◌≡◌, ◌∙◌, inl, inr}
use Rattle.std.proofs.lemmas.Result.{IfOk-weaker}
use Rattle.cedar_print.specs.Marks.{marks_of}
use Rattle.cedar_print.specs.WrittenMarks.{AreMarks}
use Rattle.cedar_documents.proofs.doc.write.Goals as goal

pub returns-then-branch : goal.returns-then-branch
returns-then-branch c = λ d x. elim x [
  | inl u ↦ IfOk-weaker c.to_document.result _ _
      (λ y h. h d (subst (λ z. AreMarks (marks_of z) d) (sym c.deref.ensures.value) (c.in_ok-write_node.ensures.row d u).1))
      c.to_document.ensures
  | inr (k, alone, m) ↦ (let r = c.in_ok-write_node.ensures.read k c.if-branch.true in absurd (alone r.0 r.2))
]

pub returns : goal.returns
returns c = λ d x. elim x [
  | inl u ↦ (let h : false ≡ true = sym c.if-branch.false ∙ (c.in_ok-write_node.ensures.row d u).0 in absurd cc)
  | inr (k, alone, m) ↦ IfOk-weaker c.to_document-2.result _ _
      (λ y h. h d (subst (λ z. AreMarks (marks_of z) d) (sym c.deref-2.ensures.value) (c.in_ok-write_node-2.ensures.row d m).1))
      c.to_document-2.ensures
]
