use Rattle.std.proofs.Common.{◌≡◌, List, map, take}
use Rattle.cedar_program.specs.Folders.{Follows}
use Rattle.cedar_program.specs.FolderRuns.{AllGoOn, Done, HandlesThese, task_of}
use Rattle.cedar_program.proofs.Reporting.{asked}
use Rattle.cedar_program.proofs.folder.files.format_files.Given as goal

abbrev pub invariant-loop-task : goal.invariant-loop-task
invariant-loop-task g l = (done : List Done)
    × (map task_of (take l.task-index l.tasks) ≡ map asked done) × AllGoOn done × Follows (HandlesThese l.only_checks
    done) (g.F.Folder.picture l.fn.folder) (g.F.Folder.picture l.folder)
