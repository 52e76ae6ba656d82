use Rattle.std.proofs.Common.{Ok, ap, subst}
use Rattle.cedar_folder_tests.specs.Logs.{MakesFile}
use Rattle.cedar_folder_tests.proofs.LogLemmas.{create_done, create_left}
use Rattle.cedar_folder_tests.proofs.memory.MemoryFolder.create.Goals as goal

pub returns-then-matches : goal.returns-then-matches
returns-then-matches c = create_left c.args.self.now.log.items c.put.new.self.log.items c.args.name.now
    c.args.bytes.now _ c.args.access c.put.result _ c.is_ok-is_left.ensures.value
    (subst (λ log. MakesFile c.args.name.now _ c.args.access c.put.result log c.put.new.self.log.items)
    (ap (λ log. log.items) c.call.ensures) c.put.ensures)

pub returns-in-Ok : goal.returns-in-Ok
returns-in-Ok c = create_done c.args.self.now.log.items c.put-2.new.self.log.items c.args.name.now
    c.args.bytes.now c.args.access
    (subst (λ log. MakesFile c.args.name.now c.args.bytes.now c.args.access (Ok tt) log c.put-2.new.self.log.items)
    (ap (λ log. log.items) c.call.ensures) c.in-Ok.ensures)
