use Rattle.std.proofs.Common.{◌∙◌, ◌∷◌, [], map, ap, sym}
use Rattle.std.proofs.lemmas.List.{map-append}
use Rattle.cedar_files.proofs.PathLemmas.{next_name}
use Rattle.cedar_files.proofs.paths.go_on.Goals as goal

pub returns-in_ok-push-in_default : goal.returns-in_ok-push-in_default
returns-in_ok-push-in_default c =
    let before = c.args.parts.now.items in
    ap (λ xs. map (λ x. x.now) xs) c.in_ok-push-in_default.ensures.items
    ∙ map-append (λ x. x.now) before (c.args.name ∷ [])
    ∙ sym (next_name (map (λ x. x.now) before) c.args.name.now c.in_default.not-empty c.in_default.not-text c.in_default.not-text-2)
