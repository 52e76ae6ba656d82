use Rattle.std.proofs.Common.{length, ap, sym, ◌∙◌}
use Rattle.std.proofs.lemmas.Result.{IfOk-weaker}
use Rattle.std.specs.List.{filter}
use Rattle.cedar_server.specs.Completions.{expected_at, has_one_text}
use Rattle.cedar_server.proofs.Expecting.{could_come, elsewhere, ended, found, opened}
use Rattle.cedar_server.proofs.completions.kinds_after.Goals as goal

pub loop-fault-preserved : goal.loop-fault-preserved
loop-fault-preserved c =
    c.loop-fault.invariant ∙ elsewhere _ c.deref-fault-items.result.now c.loop-fault.fault-index c.fault-item.result
    c.loop-fault-test.true c.fault-item.is (sym c.if-is_open.ensures) c.if-fault-before.false

pub returns-then-is_open : goal.returns-then-is_open
returns-then-is_open c =
    let n = length c.args.before.now in
    let items = c.deref-fault-items.result.now in
    could_come c.args.before.now c.as_str.result.now c.in_ok-faults.faults.items c.new.result.items
    (c.as_str.ensures.value ∙ c.in_ok-text.ensures.ok) c.in_ok-faults.ensures
    (c.new.ensures.items ∙ sym (ap (expected_at n) (sym c.deref-fault-items.ensures.value)
    ∙ (c.loop-fault.invariant ∙ opened n items c.loop-fault.fault-index c.fault-item.result
    c.loop-fault-test.true c.fault-item.is (sym c.if-is_open.ensures))))

pub returns-then-fault-before : goal.returns-then-fault-before
returns-then-fault-before c =
    let n = length c.args.before.now in
    let items = c.deref-fault-items.result.now in
    IfOk-weaker c.with_one_text.result _ _ (λ kinds same.
    could_come c.args.before.now c.as_str.result.now c.in_ok-faults.faults.items kinds.items
    (c.as_str.ensures.value ∙ c.in_ok-text.ensures.ok) c.in_ok-faults.ensures
    (same ∙ ap (filter has_one_text) c.deref.ensures.value ∙ sym (ap (expected_at n) (sym c.deref-fault-items.ensures.value)
    ∙ (c.loop-fault.invariant ∙ found n items c.loop-fault.fault-index c.fault-item.result
    c.loop-fault-test.true c.fault-item.is (sym c.if-is_open.ensures) c.if-fault-before.true))))
    c.with_one_text.ensures

pub returns : goal.returns
returns c =
    let n = length c.args.before.now in
    let items = c.deref-fault-items.result.now in
    could_come c.args.before.now c.as_str.result.now c.in_ok-faults.faults.items c.new-2.result.items
    (c.as_str.ensures.value ∙ c.in_ok-text.ensures.ok) c.in_ok-faults.ensures
    (c.new-2.ensures.items ∙ sym (ap (expected_at n) (sym c.deref-fault-items.ensures.value)
    ∙ (c.loop-fault.invariant ∙ ended n items c.loop-fault.fault-index c.loop-fault-test.false)))
