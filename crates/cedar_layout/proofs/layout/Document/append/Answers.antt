use Rattle.std.proofs.Common.{ap, ◌∙◌, sym}
use Rattle.cedar_layout.specs.Layout.{◌·◌}
use Rattle.cedar_layout.specs.Value.{doc_of, docs_of}
use Rattle.cedar_layout.proofs.Values.{dot-nil, doc_of_nil, doc_of_seq, docs_of-push}
use Rattle.cedar_layout.proofs.layout.Document.append.Goals as goal

pub returns-in-Nil-other : goal.returns-in-Nil-other
returns-in-Nil-other c =
    sym (ap (λ d. doc_of c.args.self · d) (ap doc_of c.in-Nil-other.is ∙ doc_of_nil)
    ∙ dot-nil (doc_of c.args.self))

pub returns : goal.returns
returns c =
    doc_of_seq c.push.new.self
    ∙ ap docs_of c.in_ok-push.ensures.items
    ∙ docs_of-push c.in_ok-docs.docs.items c.args.other
    ∙ ap (λ d. d · doc_of c.args.other) c.in_ok-docs.ensures
