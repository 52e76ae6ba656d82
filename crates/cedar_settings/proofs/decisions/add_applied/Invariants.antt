use Rattle.std.proofs.Common.{◌≡◌, ◌++◌, map, take}
use Rattle.cedar_settings.specs.Decisions.{applied_at}
use Rattle.cedar_settings.proofs.decisions.add_applied.Given as goal

abbrev pub invariant-loop-entry : goal.invariant-loop-entry
invariant-loop-entry l = l.applied.items
    ≡ l.initial.applied.items ++ map (applied_at l.file) (take l.entry-index l.entries)
