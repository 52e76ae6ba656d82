use Rattle.std.proofs.Common.{◌≡◌, true, false, arith, sym, ◌∙◌, subst, All}
use Rattle.std.proofs.lemmas.List.{take_all}
use Rattle.std.proofs.lemmas.List.Elements.{All-more}
use Rattle.cedar_faults.specs.declared.kinds.Name.TheVariants.{Policy}
use Rattle.cedar_faults.proofs.Groups.{Unfit, group_name, own_name}
use Rattle.cedar_faults.proofs.kinds.Kinds.name.Goals.{else-has-via-then-has+else-have_all, else-has-via-else-has}
use Rattle.cedar_faults.proofs.kinds.Kinds.name.Goals as goal

pub loop-group-preserved : goal.loop-group-preserved
loop-group-preserved c =
    All-more (Unfit c.args.self.now.items.items c.args.kind) c.groups-group-items.result
    c.loop-group.group-index Policy (rw c.groups-group-items.ensures (omega arith))
    c.loop-group.invariant (elim c.else-has.branch [
      | else-has-via-then-has+else-have_all w ↦
          (λ n a. let z : false ≡ true = sym w.if-have_all.false ∙ w.have_all.ensures.1 a in cc)
      | else-has-via-else-has w ↦
          (λ n a. let z : false ≡ true = sym w.if-has.false ∙ c.has.ensures ∙ n in cc)
    ])

pub returns-then-have_all : goal.returns-then-have_all
returns-then-have_all c =
    group_name c.args.self.now.items.items c.args.kind c.groups-group-items.result
    c.loop-group.group-index Policy c.groups-group-items.ensures
    (rw c.groups-group-items.ensures (omega arith)) c.loop-group.invariant
    (sym c.has.ensures ∙ c.if-has.true) (c.have_all.ensures.0 c.if-have_all.true)

pub returns : goal.returns
returns c =
    let kinds = c.args.self.now.items.items in
    let whole : All (Unfit kinds c.args.kind) c.groups-group-items.result =
    rw (take_all c.loop-group.group-index c.groups-group-items.result
    (rw c.groups-group-items.ensures (omega arith))) at c.loop-group.invariant in
    own_name kinds c.args.kind c.requires
    (subst (All (Unfit kinds c.args.kind)) c.groups-group-items.ensures whole)
