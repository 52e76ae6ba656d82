use Rattle.std.proofs.Common.{ap, sym, ◌∙◌, ◌<◌, length, map, arith}
use Rattle.std.proofs.lemmas.List.{take_all, length-map}
use Rattle.cedar_layout.specs.Comments.{broken_lines}
use Rattle.cedar_layout.specs.Layout.{hard, ◌·◌}
use Rattle.cedar_layout.proofs.Commented.{line_step, lead_is, not_zero}
use Rattle.cedar_layout.proofs.Values.{doc_of_seq}
use Rattle.cedar_layout.proofs.utils.comments.get_leading_comment_doc_from_str.Goals as goal

pub loop-line-preserved : goal.loop-line-preserved
loop-line-preserved c =
    line_step c.loop-line.docs.items c.push-in-loop-line.new.self.items
    c.push-in-loop-line-2.new.self.items c.args.leading.now
    c.loop-line.line-index _ c.loop-line-test.true c.in_ok-push-2.ensures.items
    c.in_ok-push-3.ensures.items c.loop-line.invariant

pub returns : goal.returns
returns c =
    let all =
    take_all c.loop-line.line-index c.args.leading.now (omega (arith, c.loop-line-test.false)) in
    let some : 0 < length c.args.leading.now =
    not_zero (length c.args.leading.now) (sym c.is_empty.ensures ∙ c.if-is_empty.false) in
    doc_of_seq c.loop-line.docs ∙ c.loop-line.invariant
    ∙ ap (λ ls. hard · broken_lines (map (λ l. l.now) ls)) all
    ∙ lead_is (map (λ l. l.now) c.args.leading.now)
    (omega (arith, length-map c.args.leading.now (λ l. l.now), some))
