use Rattle.std.proofs.Common.{◌≡◌, ◌++◌, ◌∷◌, [], length, vec_len, refl, ap, ◌∙◌, rules}
use Rattle.cedar_layout.specs.Value.{doc_of}
use Rattle.cedar_layout.proofs.Values.{interspersed_first, interspersed_more, not_empty, is_nil, push_not_nil}
use Rattle.cedar_layout.proofs.layout.intersperse.Goals as goal
use Rattle.cedar_layout.proofs.layout.intersperse.Goals.{then-not-is_empty+in_ok-clone+in_ok-push, else-not-is_empty}

pub loop-d-preserved : goal.loop-d-preserved
loop-d-preserved c =
    let s = doc_of c.args.sep.now in
    let all = c.loop-d.all.items in
    let mid = c.if-not-is_empty.all.items in
    let d = c.in-Some.d in
    let len : vec_len c.loop-d.all ≡ length all = search rules in
    record {
      joined = elim c.if-not-is_empty.branch [
        | then-not-is_empty+in_ok-clone+in_ok-push w ↦
            let ne =
            not_empty all _ c.is_empty.result len c.is_empty.ensures w.if-not-is_empty.true in
            interspersed_more s all mid _ c.loop-d.yielded w.in_ok-clone.field-0 d ne
            (ap (λ v. v.items) w.all-is ∙ w.in_ok-push.ensures.items) c.in_ok-push-2.ensures.items
            c.loop-d.invariant.empty.1 w.in_ok-clone.ensures.cases c.loop-d.invariant.joined
        | else-not-is_empty w ↦
            let e = is_nil all _ c.is_empty.result len c.is_empty.ensures w.if-not-is_empty.false in
            interspersed_first s all _ c.loop-d.yielded d e (c.in_ok-push-2.ensures.items
            ∙ ap (λ v. v.items ++ d ∷ []) w.all-is) c.loop-d.invariant.empty.0
      ];
      empty = (
        λ e. absurd (push_not_nil mid _ d c.in_ok-push-2.ensures.items e),
        λ e. absurd (push_not_nil c.loop-d.yielded _ d refl e),
      );
    }
