use Rattle.std.proofs.Common.{◌≡◌, ◌∷◌, [], ◌++◌, ap, sym, ◌∙◌, arith}
use Rattle.cedar_layout.specs.Value.{doc_of}
use Rattle.cedar_print.specs.Marks.{mark_of}
use Rattle.cedar_print.specs.Inside.Measured.{Facts, facts_of}
use Rattle.cedar_print.specs.Inside.Walked.{marks_in, marks_in_option, marks_behind, before_all}
use Rattle.cedar_print.proofs.Walks.{before_all-push, facts_before_all}
use Rattle.cedar_print.proofs.measure.Known.measure_document.Goals as goal

pub loop-walk-init : goal.loop-walk-init
loop-walk-init g c =
    let ms = marks_in (doc_of c.args.doc.now) in
    let k = c.go_to_the_end.ensures.facts in
    let none = ap (λ (f : Facts). f.columns) k in
    record {
      facts = ap (λ xs. before_all xs (facts_of c.go_to_the_end.new.self)) c.in_ok-walk.ensures.marks
          ∙ ap (before_all ms) k ∙ facts_before_all ms;
      columns = omega (arith, none);
      steps = omega (arith, c.in_ok-walk.ensures.nodes);
      least = omega arith;
    }

pub loop-walk-preserved : goal.loop-walk-preserved
loop-walk-preserved g c =
    let m = mark_of c.in-Some.mark in
    let left = marks_behind c.next.new.self.pending.items in
    let k = facts_of c.loop-walk.self in
    let taken : marks_behind c.loop-walk.walk.pending.items ≡ left ++ m ∷ [] =
    c.in_ok-mark.ensures.marks ∙ ap (λ o. left ++ marks_in_option o) c.in-Some.is in
    record {
      facts = ap (before_all left) c.in_ok-take_up.ensures.facts ∙ sym (before_all-push left m k)
          ∙ sym (ap (λ xs. before_all xs k) taken) ∙ c.loop-walk.invariant.facts;
      columns = omega (arith, c.if-self-gt-MOST.false);
      steps = omega (arith, c.in_ok-mark.ensures.steps, c.loop-walk.invariant.steps);
      least = omega (arith, c.in_ok-mark.ensures.least, c.loop-walk.invariant.least);
    }
