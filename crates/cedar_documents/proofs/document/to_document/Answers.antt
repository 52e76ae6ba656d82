use Rattle.std.proofs.Common.{sym, ap, ◌∙◌, arith}
use Rattle.std.proofs.lemmas.List.{drop_all}
use Rattle.cedar_layout.proofs.Values.{doc_of_seq}
use Rattle.cedar_print.specs.Marks.{marks_of}
use Rattle.cedar_documents.specs.Inside.Read.{State, walk, state_of}
use Rattle.cedar_documents.proofs.Read.{read_all}
use Rattle.cedar_documents.proofs.document.to_document.Goals as goal

pub returns : goal.returns
returns c = λ d x.
    let l = c.loop-mark in
    let ms = c.args.marks.now in
    doc_of_seq l.docs ∙ ap (λ (s : State). s.here)
    (ap (λ xs. walk (marks_of xs) (state_of l.begun.items l.docs.items))
    (sym (drop_all l.mark-index ms (omega arith))) ∙ l.invariant ∙ read_all (marks_of ms) d x)
