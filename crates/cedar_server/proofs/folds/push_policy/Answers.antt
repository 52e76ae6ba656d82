use Rattle.std.proofs.Common.{◌≡◌, ◌++◌, ◌∷◌, [], map, subst}
use Rattle.cedar_server.specs.Folds.{cond_fold, several}
use Rattle.cedar_server.specs.declared.folds.FoldKind.{FoldKind}
use Rattle.cedar_server.proofs.Folding.{added_more}
use Rattle.cedar_server.proofs.StandingParts.{cond_stands}
use Rattle.cedar_server.proofs.folds.push_policy.Goals as goal

pub push_conds-requires-clause-stands : goal.push_conds-requires-clause-stands
push_conds-requires-clause-stands c = rw c.deref.ensures.value
    (λ k d l. cond_stands c.args.section.now c.args.policy.now k d c.requires.stands l)

pub returns : goal.returns
returns c =
    let section = c.args.section.now in
    let policy = c.args.policy.now in
    let conds = subst (λ z. c.push_conds.new.folds.items ≡ c.push_fold.new.folds.items ++ several section c.args.from (map cond_fold z))
    c.deref.ensures.value c.in_ok-push_conds.ensures in
    added_more section c.args.from c.args.folds.now.items c.push_fold.new.folds.items c.push_conds.new.folds.items
    (record { span = policy.span; kind = FoldKind.Policy } ∷ []) (map cond_fold policy.inner.conds.items)
    c.in_ok-push_fold.ensures conds
