use Rattle.std.specs.List.{list_any}
use Rattle.std.proofs.Common.{◌≡◌, true, false, ◌+◌, [], ◌∷◌, ◌++◌, sym, ap, ◌∙◌, subst, get_or}
use Rattle.cedar_tokens.specs.declared.kind.Kind.TheVariants as K
use Rattle.cedar_faults.specs.Naming.{names}
use Rattle.cedar_faults.proofs.NameLists.{SoFar, none_so_far, stays, grows, all_named}
use Rattle.cedar_faults.proofs.kinds.names_of.Goals as goal
use Rattle.cedar_faults.proofs.kinds.names_of.Goals.{then-not-is_named+in_ok-push, else-not-is_named}

pub loop-kind-init : goal.loop-kind-init
loop-kind-init c = rw c.new-names.ensures.items (none_so_far c.args.kinds.now.items.items)

pub loop-kind-preserved : goal.loop-kind-preserved
loop-kind-preserved c =
    let kinds = c.args.kinds.now.items.items in
    let i = c.loop-kind.kind-index in
    elim c.if-not-is_named.branch [
      | then-not-is_named+in_ok-push w ↦
          (let e : c.if-not-is_named.names.items ≡ c.loop-kind.names.items ++ w.name.result ∷ [] =
          ap (λ v. v.items) w.names-is ∙ w.in_ok-push.ensures.items in
          let n : list_any (λ name. names name (get_or kinds i K.True)) c.loop-kind.names.items ≡ false =
          rw (c.deref-kind-items.ensures.value, c.deref.ensures.value) at
          (sym c.is_named.ensures ∙ w.if-not-is_named.true) in
          let name = rw c.deref-kind-items.ensures.value at w.name.ensures in
          subst (λ all. SoFar kinds all (i + 1)) (sym e)
          (grows kinds c.loop-kind.names.items i w.name.result (rw c.deref-kind-items.ensures.value
          at c.loop-kind-test.true) c.loop-kind.invariant n name))
      | else-not-is_named w ↦
          (let e : c.if-not-is_named.names.items ≡ c.loop-kind.names.items =
          ap (λ v. v.items) w.names-is in
          let n : list_any (λ name. names name (get_or kinds i K.True)) c.loop-kind.names.items ≡ true =
          rw (c.deref-kind-items.ensures.value, c.deref.ensures.value) at
          (sym c.is_named.ensures ∙ w.if-not-is_named.false) in
          subst (λ all. SoFar kinds all (i + 1)) (sym e) (stays kinds c.loop-kind.names.items i
          (rw c.deref-kind-items.ensures.value at c.loop-kind-test.true) c.loop-kind.invariant n))
    ]

pub returns : goal.returns
returns c = all_named c.args.kinds.now.items.items c.loop-kind.names.items c.loop-kind.kind-index
    (rw c.deref-kind-items.ensures.value at c.loop-kind-test.false) c.loop-kind.invariant
