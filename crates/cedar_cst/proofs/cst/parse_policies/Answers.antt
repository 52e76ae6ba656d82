use Rattle.std.proofs.Common.{◌<◌, ◌++◌, length, arith, sym, ap, subst}
use Rattle.std.specs.Prelude.{[], ◌∷◌}
use Rattle.cedar_cst.specs.PolicyReaders.{HasPolicies, HasRead}
use Rattle.cedar_cst.proofs.Readers.{ends_inside}
use Rattle.cedar_cst.proofs.cst.parse_policies.Goals as goal

pub policies-preserved : goal.policies-preserved
policies-preserved c =
    let text = c.args.text.now in
    let items = c.policies.policies.items in
    let answer = c.in_ok-policy.ensures.answer text items c.policies.invariant in
    let more : HasRead c.next.new.self text (items ++ c.in-Some.policy ∷ []) =
    rw c.in-Some.is at answer in
    subst (HasRead c.next.new.self text) (sym c.in_ok-push.ensures.items) more

pub policies-smaller : goal.policies-smaller
policies-smaller c =
    let text = c.args.text.now in
    let old = c.policies.reader in
    let new = c.next.new.self in
    let items = c.policies.policies.items in
    let answer = c.in_ok-policy.ensures.answer text items c.policies.invariant in
    let more : HasRead new text (items ++ c.in-Some.policy ∷ []) = rw c.in-Some.is at answer in
    let place = c.in_ok-policy.ensures.place in
    let further : old.at < new.at = rw c.in-Some.is at place in
    omega (
      arith,
      further,
      ends_inside text new.at more.ends,
      ap length more.of_text,
      ap length c.policies.invariant.of_text,
    )

pub returns-clause-tree : goal.returns-clause-tree
returns-clause-tree c =
    let text = c.args.text.now in
    let answer =
    c.in_ok-policy.ensures.answer text c.policies.policies.items c.policies.invariant in
    let has : HasPolicies text c.policies.policies.items = rw c.in_default.is at answer in
    (c.tree_has_the_policies.ensures text (record { policies = c.policies.policies })).0 has
