use Rattle.std.proofs.Common.{◌≡◌, ◌+◌, ◌++◌, ◌∷◌, [], ◌∙◌, ap, sym, subst, arith, take, map}
use Rattle.std.proofs.lemmas.List.{take_all, take_more}
use Rattle.cedar_grammar.specs.declared.tree.Node.{Node}
use Rattle.cedar_grammar.specs.declared.tree.Cond.{Cond}
use Rattle.cedar_server.specs.Folds.{cond_fold, several}
use Rattle.cedar_server.specs.Inside.StandingParts.{Stands}
use Rattle.cedar_server.proofs.Folding.{added_more, conds_more}
use Rattle.cedar_server.proofs.folds.push_conds.Goals as goal

pub push_fold-requires-clause-start : goal.push_fold-requires-clause-start
push_fold-requires-clause-start c =
    let k = c.loop-cond.cond-index in
    let s : Stands c.args.section.now c.cond-item.result.span =
    subst (λ (z : Node Cond). Stands c.args.section.now z.span) (sym c.cond-item.is)
    (c.requires.stands k c.cond-item.result c.loop-cond-test.true) in
    omega (arith, s.start, c.requires.room)

pub push_fold-requires-clause-end : goal.push_fold-requires-clause-end
push_fold-requires-clause-end c =
    let k = c.loop-cond.cond-index in
    let s : Stands c.args.section.now c.cond-item.result.span =
    subst (λ (z : Node Cond). Stands c.args.section.now z.span) (sym c.cond-item.is)
    (c.requires.stands k c.cond-item.result c.loop-cond-test.true) in
    omega (arith, s.end, c.requires.room)

pub loop-cond-preserved : goal.loop-cond-preserved
loop-cond-preserved c =
    let k = c.loop-cond.cond-index in
    let conds = c.args.conds.now in
    let item = c.cond-item.result in
    let more : take (k + 1) conds ≡ take k conds ++ item ∷ [] =
    take_more conds k item c.loop-cond-test.true ∙ ap (λ z. take k conds ++ z ∷ []) (sym c.cond-item.is) in
    added_more c.args.section.now c.args.from c.args.folds.now.items c.loop-cond.folds.items c.push_fold.new.folds.items
    (map cond_fold (take k conds)) (cond_fold item ∷ []) c.loop-cond.invariant c.in_ok-push_fold.ensures
    ∙ ap (λ z. c.args.folds.now.items ++ several c.args.section.now c.args.from z) (conds_more conds k item more)

pub returns : goal.returns
returns c = c.loop-cond.invariant
    ∙ ap (λ z. c.args.folds.now.items ++ several c.args.section.now c.args.from (map cond_fold z))
    (take_all c.loop-cond.cond-index c.args.conds.now (omega (arith, c.loop-cond-test.false)))
