use Rattle.std.proofs.Common.{◌∙◌, ap, sym}
use Rattle.cedar_program.specs.Folders.{stored}
use Rattle.cedar_folder_tests.specs.Logs.{picture_of}
use Rattle.cedar_folder_tests.proofs.LogLemmas.{added, replace_done, same_version}
use Rattle.cedar_folder_tests.proofs.memory.MemoryFolder.replace.Goals as goal

pub returns : goal.returns
returns c =
    let same = ap (λ log. log.items) c.call.ensures in
    replace_done c.args.self.now.log.items c.add.new.self.log.items c.args.from.now c.args.to.now c.args.version
    c.in_ok-from.from c.in_ok-to.to (stored c.in-Some.file.now) c.in_ok-from.ensures.ok c.in_ok-to.ensures.ok
    (same_version c.in-Some.file.now.version c.args.version (sym c.if-eq.ensures))
    (ap (λ log. (picture_of log).holds c.args.to.now) (sym same) ∙ sym c.in-Some.ensures)
    (added _ _ _ _ c.add.result _ c.in_ok-add.was same c.add.ensures)
