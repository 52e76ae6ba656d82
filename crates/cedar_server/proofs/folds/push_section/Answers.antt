use Rattle.std.proofs.Common.{◌≡◌, ◌+◌, ◌++◌, ◌∷◌, [], ◌∙◌, ap, sym, subst, inr, length, arith, get_or, take}
use Rattle.std.specs.List.{flat_map}
use Rattle.std.proofs.lemmas.List.{take_all, take_more}
use Rattle.cedar_grammar.specs.NodeTrees.{IsTreeOf}
use Rattle.cedar_server.specs.Folds.{several, policy_folds}
use Rattle.cedar_server.specs.Inside.StandingParts.{PolicyStands}
use Rattle.cedar_server.proofs.Folding.{added_more, policies_more}
use Rattle.cedar_server.proofs.StandingParts.{policy_stands}
use Rattle.cedar_server.proofs.folds.push_section.Goals as goal

pub push_policy-requires-clause-stands : goal.push_policy-requires-clause-stands
push_policy-requires-clause-stands c =
    let section = c.args.section.now in
    let k = c.loop-policy.policy-index in
    let p = c.in-Some.policies in
    let tree : IsTreeOf section p = rw c.in-Some.is at c.in_ok-policies.ensures in
    let items = c.deref-policy-items.ensures.value in
    subst (PolicyStands section) (sym (c.policy-item.is ∙ ap (λ z. get_or z k c.policy-item.result) items))
    (policy_stands section p k c.policy-item.result c.utf8.section tree
    (omega (arith, ap length items, c.loop-policy-test.true)))

pub loop-policy-preserved : goal.loop-policy-preserved
loop-policy-preserved c =
    let k = c.loop-policy.policy-index in
    let items = c.deref-policy-items.result.now in
    let p = c.policy-item.result in
    let more : take (k + 1) items ≡ take k items ++ p ∷ [] =
    take_more items k p c.loop-policy-test.true ∙ ap (λ z. take k items ++ z ∷ []) (sym c.policy-item.is) in
    added_more c.args.section.now c.args.from c.args.folds.now.items c.loop-policy.folds.items _ (flat_map policy_folds (take k items))
    (policy_folds p) c.loop-policy.invariant c.in_ok-push_policy.ensures
    ∙ ap (λ z. c.args.folds.now.items ++ several c.args.section.now c.args.from z) (policies_more items k p more)

pub returns : goal.returns
returns c =
    let items = c.deref-policy-items.result.now in
    let tree : IsTreeOf c.args.section.now c.in-Some.policies = rw c.in-Some.is at c.in_ok-policies.ensures in
    let all : take c.loop-policy.policy-index items ≡ c.in-Some.policies.policies.items =
    take_all c.loop-policy.policy-index items (omega (arith, c.loop-policy-test.false)) ∙ c.deref-policy-items.ensures.value in
    inr (
      c.in-Some.policies,
      tree,
      c.loop-policy.invariant
          ∙ ap (λ z. c.args.folds.now.items ++ several c.args.section.now c.args.from (flat_map policy_folds z)) all,
    )
