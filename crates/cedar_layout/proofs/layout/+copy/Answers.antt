use Rattle.std.proofs.Common.{◌+◌, drop, sym, ap, ◌∙◌}
use Rattle.cedar_layout.specs.Layout.{◌·◌}
use Rattle.cedar_layout.specs.Value.{doc_of, docs_of}
use Rattle.cedar_layout.proofs.Values.{copy_step, doc_of_seq, dot-nil}
use Rattle.cedar_layout.proofs.Contents.{docs_of-drop, docs_of-drop_all}
use Rattle.cedar_layout.proofs.layout.+copy.Goals as goal

pub loop-d-preserved : goal.loop-d-preserved
loop-d-preserved t c =
    let items = c.deref-d-items.result.now in
    let k = c.loop-d.d-index in
    let d = c.d-item.result in
    let split = docs_of-drop items k d c.loop-d-test.true
    ∙ ap (λ x. doc_of x · docs_of (drop (k + 1) items)) (sym c.d-item.is) in
    copy_step c.push.new.self.items c.loop-d.all.items (drop k items)
    (drop (k + 1) items) c.in_ok-copy-in-Seq.field-0 d _ c.in_ok-push-in-Seq.ensures.items
    c.in_ok-copy-in-Seq.ensures split c.loop-d.invariant

pub returns-after-loop-d : goal.returns-after-loop-d
returns-after-loop-d t c =
    doc_of_seq c.loop-d.all
    ∙ sym (dot-nil (docs_of c.loop-d.all.items))
    ∙ ap (λ x. docs_of c.loop-d.all.items · x)
    (sym (docs_of-drop_all c.deref-d-items.result.now c.loop-d.d-index c.loop-d-test.false))
    ∙ c.loop-d.invariant
