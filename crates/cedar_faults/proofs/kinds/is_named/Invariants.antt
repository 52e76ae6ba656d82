use Rattle.std.proofs.Common.{◌≡◌, false, take}
use Rattle.std.specs.List.{list_any}
use Rattle.cedar_faults.specs.Naming.{names}
use Rattle.cedar_faults.proofs.kinds.is_named.Given as goal

-- none of the names so far has the kind
abbrev pub invariant-loop-name : goal.invariant-loop-name
invariant-loop-name l = list_any (λ name. names name l.kind) (take l.name-index l.all) ≡ false
