use Rattle.std.proofs.Common.{◌≡◌, ◌∙◌, refl, subst}
use Rattle.cedar_faults.specs.Words.{message}
use Rattle.cedar_c.specs.Answers.{PutsIfRoom}
use Rattle.cedar_c.specs.Answers.TellsFault.{none, fault, out_of_memory, not_utf8}
use Rattle.cedar_c.specs.Inside.{IsNextFault}
use Rattle.cedar_c.proofs.Putting.{puts}
use Rattle.cedar_c.proofs.calls.find_fault.Goals as goal

pub returns-in_default : goal.returns-in_default
returns-in_default c = rw c.no_fault.ensures (not_utf8 c.in_default.ensures.1 refl)

pub returns-in-Ok-None : goal.returns-in-Ok-None
returns-in-Ok-None c =
    rw c.no_fault-in-Ok-None.ensures (none c.in-Ok.ensures.0
    (rw c.in-Ok.ensures.1 at (rw c.in-Ok-None.field-0-is at c.in-Ok-None.ensures)) refl)

pub returns-in-Ok-Some : goal.returns-in-Ok-Some
returns-in-Ok-Some c =
    let found = c.in-Ok-Some.found in
    let bytes = c.as_bytes-message.result.now in
    let f : IsNextFault c.in-Ok.text.now found = rw c.in-Ok-Some.field-0-is at c.in-Ok-Some.ensures in
    let is : bytes ≡ message found.fault = c.as_bytes-message.ensures.value ∙ f.said in
    let said : PutsIfRoom (message found.fault) c.args.out.now c.put.new.room =
    subst (λ z. PutsIfRoom z c.args.out.now c.put.new.room) is (puts bytes c.args.out.now c.put.new.room c.put.result c.put.ensures) in
    rw (c.refusal.ensures, c.unclosed_part-unclosed.ensures, is)
    (fault found.next found.fault c.in-Ok.ensures.0 (rw c.in-Ok.ensures.1 at f.first) said)

pub returns-in-Err : goal.returns-in-Err
returns-in-Err c = rw c.no_fault-in-Err.ensures (out_of_memory refl)
