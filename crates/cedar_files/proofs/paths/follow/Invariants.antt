use Rattle.std.proofs.Common.{◌≡◌, map, take}
use Rattle.std.specs.List.{fold}
use Rattle.cedar_files.specs.Paths.{next}
use Rattle.cedar_files.proofs.paths.follow.Given as goal

abbrev pub invariant-loop-name : goal.invariant-loop-name
invariant-loop-name l = map (λ x. x.now) l.parts.items
    ≡ fold next (map (λ x. x.now) l.initial.parts.items) (map (λ x. x.now) (take l.name-index l.name-items))
