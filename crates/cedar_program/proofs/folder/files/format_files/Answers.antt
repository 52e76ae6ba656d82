use Rattle.std.proofs.Common.{◌++◌, ◌∷◌, [], ◌+◌, refl, true}
use Rattle.cedar_program.specs.FolderRuns.{Done}
use Rattle.cedar_program.proofs.Steps.{of_three}
use Rattle.cedar_program.proofs.Reporting.{ends_at_all, ends_going_on, goes_on_more, next_task, one_more, until_stopped, with_told}
use Rattle.cedar_program.proofs.folder.files.format_files.Goals as goal

pub loop-task-preserved : goal.loop-task-preserved
loop-task-preserved g c =
    let pic = g.F.Folder.picture in
    let before = c.loop-task.invariant in
    let m = c.as_str-name.result.now in
    let config = c.task-item.result.config in
    let o = c.format_file-outcome.result in
    let t : Done = with_told m config o c.report.result true in (
      before.0 ++ (t ∷ []),
      next_task c.args.tasks.now before.0 c.loop-task.task-index c.task-item.result t
          c.loop-task-test.true c.task-item.is c.as_str-name.ensures.value refl before.1,
      goes_on_more before.0 t before.2 refl c.if-not-report.false,
      of_three (λ p q r s these step is. one_more c.outputs_are_canonical.ensures.some
          c.outputs_are_canonical.ensures.list
          c.outputs_are_canonical.ensures.equal c.listing_is_unique.ensures c.args.only_checks
          before.0 t p q r s these step
          (ends_going_on m config o c.report.result r s c.if-not-report.false is))
          (pic c.args.folder.now) (pic c.loop-task.folder) (pic c.format_file-outcome.new.folder)
          (pic c.report.new.self) before.3 c.format_file-outcome.ensures c.report.ensures,
    )

pub returns-then-not-report : goal.returns-then-not-report
returns-then-not-report g c =
    let pic = g.F.Folder.picture in
    let before = c.loop-task.invariant in
    let m = c.as_str-name.result.now in
    let config = c.task-item.result.config in
    let o = c.format_file-outcome.result in
    of_three (λ p q r s these step is.
    let (is_told, end) = ends_at_all m config o c.report.result r s is in
    let t : Done = with_told m config o c.report.result is_told in
    let done = before.0 ++ (t ∷ []) in
    until_stopped c.args.tasks.now done (c.loop-task.task-index + 1)
    c.args.only_checks before.0 t p s refl before.2 c.if-not-report.true
    (next_task c.args.tasks.now before.0 c.loop-task.task-index c.task-item.result t
    c.loop-task-test.true c.task-item.is c.as_str-name.ensures.value refl before.1)
    (one_more c.outputs_are_canonical.ensures.some c.outputs_are_canonical.ensures.list
    c.outputs_are_canonical.ensures.equal c.listing_is_unique.ensures c.args.only_checks
    before.0 t p q r s these step end))
    (pic c.args.folder.now) (pic c.loop-task.folder) (pic c.format_file-outcome.new.folder)
    (pic c.report.new.self) before.3 c.format_file-outcome.ensures c.report.ensures
