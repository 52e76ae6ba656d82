use Rattle.std.proofs.Common.{◌≡◌, ◌+◌, ◌++◌, ◌∷◌, [], ◌∙◌, ap, sym, subst, inr, length, arith, get_or, take, append_assoc}
use Rattle.std.proofs.lemmas.List.{take_all, take_more}
use Rattle.cedar_grammar.specs.NodeTrees.{IsTreeOf}
use Rattle.cedar_server.specs.Symbols.{AreSymbolsOf}
use Rattle.cedar_server.specs.Inside.StandingParts.{PolicyStands}
use Rattle.cedar_server.proofs.Naming.{one_more}
use Rattle.cedar_server.proofs.StandingParts.{policy_stands}
use Rattle.cedar_server.proofs.symbols.push_symbols.Goals as goal

pub symbol_of-requires-clause-stands : goal.symbol_of-requires-clause-stands
symbol_of-requires-clause-stands c =
    let section = c.args.section.now in
    let k = c.loop-policy.policy-index in
    let p = c.in-Some.policies in
    let tree : IsTreeOf section p = rw c.in-Some.is at c.in_ok-policies.ensures in
    let items = c.deref-policy-items.ensures.value in
    subst (PolicyStands section) (sym (c.policy-item.is ∙ ap (λ z. get_or z k c.policy-item.result) items))
    (policy_stands section p k c.policy-item.result c.utf8.section tree
    (omega (arith, ap length items, c.loop-policy-test.true)))

pub loop-policy-preserved : goal.loop-policy-preserved
loop-policy-preserved c =
    let i = c.loop-policy.invariant in
    let k = c.loop-policy.policy-index in
    let items = c.deref-policy-items.result.now in
    let s = c.in_ok-symbol_of.field-0 in
    let more : take (k + 1) items ≡ take k items ++ c.policy-item.result ∷ [] =
    take_more items k c.policy-item.result c.loop-policy-test.true ∙ ap (λ z. take k items ++ z ∷ []) (sym c.policy-item.is) in (
      i.0 ++ s ∷ [],
      subst (λ z. AreSymbolsOf c.args.section.now c.args.from z (i.0 ++ s ∷ [])) (sym more)
          (one_more c.args.section.now c.args.from (take k items) i.0 c.policy-item.result s i.1 c.in_ok-symbol_of.ensures),
      c.in_ok-push.ensures.items ∙ ap (λ z. z ++ s ∷ []) i.2
          ∙ append_assoc c.args.symbols.now.items i.0 (s ∷ []),
    )

pub returns : goal.returns
returns c =
    let i = c.loop-policy.invariant in
    let items = c.deref-policy-items.result.now in
    let tree : IsTreeOf c.args.section.now c.in-Some.policies = rw c.in-Some.is at c.in_ok-policies.ensures in
    let all : take c.loop-policy.policy-index items ≡ c.in-Some.policies.policies.items =
    take_all c.loop-policy.policy-index items (omega (arith, c.loop-policy-test.false)) ∙ c.deref-policy-items.ensures.value in
    inr (c.in-Some.policies, i.0, tree, subst (λ z. AreSymbolsOf c.args.section.now c.args.from z i.0) all i.1, i.2)
