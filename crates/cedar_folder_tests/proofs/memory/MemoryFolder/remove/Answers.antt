use Rattle.std.proofs.Common.{ap}
use Rattle.cedar_folder_tests.proofs.LogLemmas.{added, remove_done}
use Rattle.cedar_folder_tests.proofs.memory.MemoryFolder.remove.Goals as goal

pub returns : goal.returns
returns c = remove_done c.args.self.now.log.items c.add.new.self.log.items c.args.name.now c.in_ok-name.name
    c.in_ok-name.ensures.ok (added _ _ _ _ c.add.result _ c.in_ok-add.was
    (ap (λ log. log.items) c.call.ensures) c.add.ensures)
