use Rattle.std.proofs.Common.{◌≡◌, ◌∷◌, ◌++◌, string_bytes, ap, ◌∙◌, arith}
use Rattle.std.proofs.lemmas.Grind.{common_steps}
use Rattle.cedar_print.specs.Marks.{mark_of}
use Rattle.cedar_print.specs.Inside.Printed.{state_of}
use Rattle.cedar_print.specs.Inside.Walked.{marks_in_option, marks_ahead}
use Rattle.cedar_print.proofs.Walks.{one_printed}
use Rattle.cedar_print.proofs.render.measure_and_print.Goals as goal

pub loop-walk-preserved : goal.loop-walk-preserved
loop-walk-preserved g c =
    let m = mark_of c.in-Some.mark in
    let left = marks_ahead c.next.new.self.pending.items in
    let taken : marks_ahead c.loop-walk.walk.pending.items ≡ m ∷ left =
    c.in_ok-mark.ensures.marks ∙ ap (λ o. marks_in_option o ++ left) c.in-Some.is in
    record {
      bytes = one_printed c.args.width (string_bytes c.loop-walk.out) (string_bytes c.write.new.out)
          _ left m (state_of c.loop-walk.place) _ _ taken c.in_ok-written.ensures.state
          c.in_ok-written.ensures.units c.in_ok-write.ensures.ok ∙ c.loop-walk.invariant.bytes;
      kept = grind (arith, common_steps, c.write.ensures.kept, c.loop-walk.invariant.kept);
      steps = omega (arith, c.in_ok-mark.ensures.steps, c.loop-walk.invariant.steps);
      least = omega (arith, c.in_ok-mark.ensures.least, c.loop-walk.invariant.least);
    }
