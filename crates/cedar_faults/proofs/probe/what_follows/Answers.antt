use Rattle.std.proofs.Common.{◌≡◌, ◌<◌, [], ◌∷◌, sym, ap, ◌∙◌, arith, get_or, length}
use Rattle.std.specs.Prelude.{take, map}
use Rattle.std.specs.List.{filter}
use Rattle.std.proofs.lemmas.List.{take_all}
use Rattle.cedar_tokens.specs.declared.kind.Kind.TheVariants as K
use Rattle.cedar_tokens.specs.TokenKinds.{kind_of}
use Rattle.cedar_faults.specs.Inside.TokenBeginnings.{OfTokens}
use Rattle.cedar_faults.specs.Inside.Pendings.{IsAfter, NeverRead}
use Rattle.cedar_faults.specs.Samples.{all_kinds}
use Rattle.cedar_faults.proofs.Afters.{kinds_of, none_follows, reads_follow, ends_tree, never_tree}
use Rattle.cedar_faults.proofs.Following.{follows, grown_by, not_grown}
use Rattle.cedar_faults.proofs.Probed.{kinds_follow}
use Rattle.cedar_faults.proofs.probe.what_follows.Goals as goal
use Rattle.cedar_faults.proofs.probe.what_follows.Goals.{then-branch+in_ok-push, else-branch}

pub returns-in_default-clause-kinds : goal.returns-in_default-clause-kinds
returns-in_default-clause-kinds c =
    let r : OfTokens c.args.text.now (λ front. NeverRead
    (map kind_of front)) = rw c.in_default.is at c.in_ok-pending.ensures in
    none_follows c.args.text.now r.0 _ r.1 r.2 c.new-items.ensures.items

pub loop-kind-preserved : goal.loop-kind-preserved
loop-kind-preserved c = λ units s. (
    let xs = c.all_kinds-kind-items.result in
    let i = c.loop-kind.kind-index in
    let l : i < length xs = rw c.all_kinds-kind-items.ensures (omega arith) in
    let same : c.in_ok-can_read.field-0 ≡ follows units (get_or xs i K.True) =
    reads_follow units c.in-Some.pending
    (get_or xs i K.True) c.in_ok-can_read.field-0 s c.in_ok-can_read.ensures in
    elim c.if-branch.branch [
      | then-branch+in_ok-push w ↦ ap (λ v. v.items) w.items-is ∙ w.in_ok-push.ensures.items
          ∙ grown_by (follows units) xs c.loop-kind.items.items i l (c.loop-kind.invariant units s)
          (sym w.if-branch.true ∙ same)
      | else-branch w ↦ ap (λ v. v.items) w.items-is ∙ not_grown (follows units) xs
          c.loop-kind.items.items i l (c.loop-kind.invariant units s) (sym w.if-branch.false ∙ same)
    ])

pub returns-clause-kinds : goal.returns-clause-kinds
returns-clause-kinds c =
    let r : OfTokens c.args.text.now (λ front. IsAfter
    (map kind_of front) c.in-Some.pending) = rw c.in-Some.is at c.in_ok-pending.ensures in
    let whole : take c.loop-kind.kind-index c.all_kinds-kind-items.result ≡ all_kinds =
    take_all c.loop-kind.kind-index c.all_kinds-kind-items.result
    (rw c.all_kinds-kind-items.ensures (omega arith)) ∙ c.all_kinds-kind-items.ensures in
    kinds_follow c.args.text.now r.0 c.loop-kind.items.items r.1
    (c.loop-kind.invariant r.0 r.2 ∙ ap (filter (follows r.0)) whole)

pub returns-in_default-clause-end : goal.returns-in_default-clause-end
returns-in_default-clause-end c =
    let r : OfTokens c.args.text.now (λ front. NeverRead
    (map kind_of front)) = rw c.in_default.is at c.in_ok-pending.ensures in
    (λ i. absurd cc, λ t. absurd (never_tree c.args.text.now r.0 r.1 r.2 t))

pub returns-clause-end : goal.returns-clause-end
returns-clause-end c =
    let r : OfTokens c.args.text.now (λ front. IsAfter
    (map kind_of front) c.in-Some.pending) = rw c.in-Some.is at c.in_ok-pending.ensures in
    ends_tree c.args.text.now r.0 c.in-Some.pending c.can_end.result r.1 r.2 c.can_end.ensures
