use Rattle.std.proofs.Common.{◌++◌, ap, sym, ◌∙◌, append_assoc, arith}
use Rattle.cedar_layout.specs.Value.{doc_of}
use Rattle.cedar_layout.proofs.Counts.{nodes_of_all-take}
use Rattle.cedar_print.specs.Inside.Walked.{marks_in, marks_behind, nodes_pending}
use Rattle.cedar_print.proofs.Walks.{marks_in-take, behind_pushed, nodes_pushed}
use Rattle.cedar_print.proofs.walk.Backward.push_all.Goals as goal

pub loop-doc-preserved : goal.loop-doc-preserved
loop-doc-preserved c =
    let docs = c.args.docs.now in
    let k = c.loop-doc.doc-index in
    let d = c.doc-item.result in
    let old = c.loop-doc.self.pending.items in
    let first = c.args.self.now.pending.items in
    let items = c.in_ok-push.ensures.items in
    let more = marks_in-take docs k d c.loop-doc-test.true c.doc-item.is in
    let n = nodes_of_all-take docs k d c.loop-doc-test.true c.doc-item.is in
    let p = ap nodes_pending items ∙ nodes_pushed old _ in
    record {
      marks = ap marks_behind items ∙ behind_pushed old _
          ∙ ap (λ ms. ms ++ marks_in (doc_of d)) c.loop-doc.invariant.marks
          ∙ append_assoc (marks_behind first) _ (marks_in (doc_of d))
          ∙ ap (λ ms. marks_behind first ++ ms) (sym more);
      nodes = omega (arith, p, n, c.loop-doc.invariant.nodes);
    }
