use Rattle.std.proofs.Common.{◌≡◌, ◌++◌, take}
use Rattle.cedar_settings.specs.Settings.{entries_below}
use Rattle.cedar_settings.proofs.decisions.add_matching.Given as goal

abbrev pub invariant-loop-section : goal.invariant-loop-section
invariant-loop-section l = l.entries.items
    ≡ l.initial.entries.items ++ entries_below (take l.section-index l.sections) l.below
