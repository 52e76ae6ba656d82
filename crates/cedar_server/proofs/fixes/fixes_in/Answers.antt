use Rattle.std.proofs.Common.{◌≡◌, ◌+◌, ◌<◌, [], ◌∷◌, ◌++◌, length, take, ap, subst, sym, ◌∙◌}
use Rattle.std.proofs.lemmas.List.{take_more}
use Rattle.cedar_server.specs.Fixes.{AreFixesIn}
use Rattle.cedar_server.proofs.Lists.{offer_more}
use Rattle.cedar_server.proofs.fixes.fixes_in.Goals as goal

pub loop-fault-preserved : goal.loop-fault-preserved
loop-fault-preserved c =
    let e = c.args.encoding in
    let text = c.args.text.now in
    let touched = c.args.touched in
    let items = c.args.faults.now in
    let i = c.loop-fault.fault-index in
    let f = c.fault-item.result in
    let within : i < length items = c.loop-fault-test.true in
    let own = c.in_ok-offer.ensures in
    let seen : take (i + 1) items ≡ take i items ++ f ∷ [] =
    take_more items i f within ∙ ap (λ g. take i items ++ g ∷ []) (sym c.fault-item.is) in
    subst (λ fs. AreFixesIn e text touched items fs c.offer.new.fixes.items) (sym seen)
    (subst (AreFixesIn e text touched items (take i items ++ f ∷ [])) (sym own.1)
    (offer_more e text touched items (take i items) f c.loop-fault.fixes.items own.0 c.loop-fault.invariant own.2))
