use Rattle.std.proofs.Common.{◌++◌, ◌-◌, take, ap, sym, ◌∙◌, append_assoc, arith}
use Rattle.cedar_layout.specs.Value.{doc_of, docs_of}
use Rattle.cedar_layout.proofs.Counts.{nodes_of_all-back}
use Rattle.cedar_print.specs.Inside.Walked.{marks_in, marks_ahead, nodes_pending}
use Rattle.cedar_print.proofs.Walks.{marks_in-back, ahead_pushed, nodes_pushed}
use Rattle.cedar_print.proofs.walk.Forward.push_all.Goals as goal

pub loop-i-preserved : goal.loop-i-preserved
loop-i-preserved c =
    let docs = c.args.docs.now in
    let k = c.loop-i.i in
    let d = c.index-docs-i.result in
    let old = c.loop-i.self.pending.items in
    let items = c.in_ok-push.ensures.items in
    let more = marks_in-back docs k d c.loop-i-test.true c.loop-i.auto.i c.index-docs-i.is in
    let n = nodes_of_all-back docs k d c.loop-i-test.true c.loop-i.auto.i c.index-docs-i.is in
    let p = ap nodes_pending items ∙ nodes_pushed old _ in
    let before = marks_in (docs_of (take (k - 1) docs)) in
    record {
      marks = ap (λ xs. before ++ marks_ahead xs) items
          ∙ ap (λ ms. before ++ ms) (ahead_pushed old _)
          ∙ sym (append_assoc before (marks_in (doc_of d)) (marks_ahead old))
          ∙ ap (λ ms. ms ++ marks_ahead old) (sym more) ∙ c.loop-i.invariant.marks;
      nodes = omega (arith, p, n, c.loop-i.invariant.nodes);
    }
