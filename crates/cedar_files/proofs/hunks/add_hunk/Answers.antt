use Rattle.std.proofs.Common.{◌∙◌, ◌⊎◌, ◌++◌, ◌∷◌, [], ap, subst, sym}
use Rattle.std.specs.Prelude.{◌↔◌}
use Rattle.cedar_files.specs.Hunks.{AreBefore, AreInOrder, IsIn, IsShown}
use Rattle.cedar_files.proofs.HunkLemmas.{all_far, any_last, far_order, grown_before, grown_order, grown_shown, joined}
use Rattle.cedar_files.proofs.hunks.add_hunk.Goals as goal

pub returns-in_ok-push-2-clause-shown : goal.returns-in_ok-push-2-clause-shown
returns-in_ok-push-2-clause-shown c = λ n.
    let more = c.args.more in
    let front = c.pop.new.self.items in
    let last = c.in-Some.last in
    let new = front ++ joined front last more ∷ [] in
    subst (λ xs. IsShown xs n ↔ (IsShown c.args.hunks.now.items n ⊎ IsIn n more)) (sym c.in_ok-push-2.ensures.items)
    (subst (λ xs. IsShown new n ↔ (IsShown xs n ⊎ IsIn n more)) (sym c.in-Some.ensures.items)
    (grown_shown front last more (subst (λ xs. AreBefore xs more) c.in-Some.ensures.items c.requires) c.if-more-last.true n))

pub returns-in_ok-push-2-clause-order : goal.returns-in_ok-push-2-clause-order
returns-in_ok-push-2-clause-order c = λ order full.
    let more = c.args.more in
    subst (λ xs. AreInOrder xs) (sym c.in_ok-push-2.ensures.items)
    (grown_order c.pop.new.self.items c.in-Some.last more (subst (λ xs. AreBefore xs more) c.in-Some.ensures.items c.requires)
    (subst (λ xs. AreInOrder xs) c.in-Some.ensures.items order))

pub returns-in_ok-push-2-clause-before : goal.returns-in_ok-push-2-clause-before
returns-in_ok-push-2-clause-before c =
    let more = c.args.more in
    subst (λ xs. AreBefore xs more) (sym c.in_ok-push-2.ensures.items)
    (grown_before c.pop.new.self.items c.in-Some.last more (subst (λ xs. AreBefore xs more) c.in-Some.ensures.items c.requires))

pub returns-in_ok-push-4-clause-shown : goal.returns-in_ok-push-4-clause-shown
returns-in_ok-push-4-clause-shown c = λ n.
    let more = c.args.more in
    let old = c.args.hunks.now.items in
    let same = c.in_ok-push-3.ensures.items ∙ sym c.in-Some.ensures.items in
    subst (λ xs. IsShown xs n ↔ (IsShown old n ⊎ IsIn n more))
    (sym (c.in_ok-push-4.ensures.items ∙ ap (λ xs. xs ++ more ∷ []) same)) (any_last old more (IsIn n))

pub returns-in_ok-push-4-clause-order : goal.returns-in_ok-push-4-clause-order
returns-in_ok-push-4-clause-order c = λ order full.
    let more = c.args.more in
    let front = c.pop.new.self.items in
    let last = c.in-Some.last in
    let order = subst (λ xs. AreInOrder xs) c.in-Some.ensures.items order in
    subst (λ xs. AreInOrder xs) (sym (c.in_ok-push-4.ensures.items ∙ ap (λ xs. xs ++ more ∷ []) c.in_ok-push-3.ensures.items))
    (far_order (front ++ last ∷ []) more (all_far front last more order c.if-more-last.false) order full)
