use Rattle.std.proofs.Common.{◌≡◌, ◌++◌, take}
use Rattle.std.specs.List.{filter_map}
use Rattle.cedar_settings.specs.Decisions.{wrong_at}
use Rattle.cedar_settings.proofs.decisions.add_wrong.Given as goal

abbrev pub invariant-loop-entry : goal.invariant-loop-entry
invariant-loop-entry l = l.problems.items
    ≡ l.initial.problems.items ++ filter_map (wrong_at l.file) (take l.entry-index l.entries)
