use Rattle.std.proofs.Common.{◌≡◌, ◌∙◌, IfOk, ap, lit<, map, subst, take_all}
use Rattle.std.specs.List.{fold, slice_split}
use Rattle.std.proofs.lemmas.Iterator.Consumers.{map_from_collect}
use Rattle.std.proofs.lemmas.Iterator.Splits.{YieldsList-from_str_split}
use Rattle.cedar_files.specs.Paths.{is_slash, next}
use Rattle.cedar_files.proofs.paths.follow.Goals as goal

pub returns : goal.returns
returns c =
    let path = c.args.path.now in
    let from = map (λ x. x.now) c.args.parts.now.items in
    let split = YieldsList-from_str_split 47 path (lit< tt) c.split.ensures.text c.split.ensures.has_more c.split.ensures.pattern in
    let collected = map_from_collect c.collect.result c.collect.ensures.ran split in
    let names = subst (λ r. IfOk r (λ w. map (λ x. x.now) w.items ≡ slice_split is_slash path)) c.in_ok-names.was collected in
    let all = take_all c.loop-name.name-index c.deref-name-items.result.now c.loop-name-test.false in
    c.loop-name.invariant
    ∙ ap (λ xs. fold next from (map (λ x. x.now) xs)) (all ∙ c.deref-name-items.ensures.value)
    ∙ ap (λ xs. fold next from xs) names
