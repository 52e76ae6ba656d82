use Rattle.std.proofs.Common.{◌≡◌, true, false, arith, refl, sym, ◌∙◌}
use Rattle.std.specs.Prelude.{IsTrue, Contains, All, take}
use Rattle.std.proofs.lemmas.List.Elements.{All-more, All-contains}
use Rattle.std.proofs.lemmas.List.{take_all}
use Rattle.cedar_tokens.specs.declared.kind.Kind.TheVariants as K
use Rattle.cedar_faults.specs.Naming.{names}
use Rattle.cedar_faults.specs.Samples.{all_kinds}
use Rattle.cedar_faults.proofs.KindLists.{all_listed}
use Rattle.cedar_faults.proofs.kinds.Kinds.have_all.Goals as goal
use Rattle.cedar_faults.proofs.kinds.Kinds.have_all.Goals.{else-has-via-then-has+else-not-contains, else-has-via-else-has}

pub loop-kind-preserved : goal.loop-kind-preserved
loop-kind-preserved c =
    All-more (λ k. IsTrue (names c.args.name k) → Contains c.args.self.now.items.items k)
    c.all_kinds-kind-items.result c.loop-kind.kind-index K.True (rw c.all_kinds-kind-items.ensures
    (omega arith)) c.loop-kind.invariant (elim c.else-has.branch [
      | else-has-via-then-has+else-not-contains w ↦
          (λ i. w.contains.ensures.0 w.if-not-contains.false)
      | else-has-via-else-has w ↦
          (λ i. absurd (let z : false ≡ true = sym w.if-has.false ∙ c.has.ensures ∙ i in cc))
    ])

pub returns : goal.returns
returns c =
    let whole : take c.loop-kind.kind-index c.all_kinds-kind-items.result ≡ all_kinds =
    take_all c.loop-kind.kind-index c.all_kinds-kind-items.result
    (rw c.all_kinds-kind-items.ensures (omega arith)) ∙ c.all_kinds-kind-items.ensures in
    let all : All (λ k. IsTrue (names c.args.name k) → Contains c.args.self.now.items.items k)
    all_kinds = rw whole at c.loop-kind.invariant in (
      λ i k n. All-contains (λ k. IsTrue (names c.args.name k)
          → Contains c.args.self.now.items.items k) all_kinds k all (all_listed k) n,
      λ a. refl,
    )
