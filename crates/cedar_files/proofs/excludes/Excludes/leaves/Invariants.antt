use Rattle.std.proofs.Common.{◌≡◌, map, take}
use Rattle.std.specs.Prelude.{◌↔◌, IsTrue}
use Rattle.std.specs.List.{Any}
use Rattle.cedar_files.specs.Excludes.{IsFor, asked}
use Rattle.cedar_files.proofs.ExcludeLemmas.{MetBelow}
use Rattle.cedar_files.proofs.excludes.Excludes.leaves.Given as goal

abbrev pub invariant-loop-rule : goal.invariant-loop-rule
invariant-loop-rule l = (map asked l.rule-items ≡ map asked l.initial.rule-items)
    × (IsTrue l.is_left ↔ Any (IsFor l.path l.below l.fn.self.folder.now) (take l.rule-index (map asked l.initial.rule-items)))
    × MetBelow l.path l.below l.fn.self.folder.now l.initial.rule-items l.rule-index l.rule-items
