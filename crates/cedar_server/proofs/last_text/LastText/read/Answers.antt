use Rattle.std.proofs.Common.{[], ◌∷◌, ◌++◌, sym, ap, subst, ◌∙◌, length, length-append, arith}
use Rattle.cedar_faults.specs.Faults.SearchFinds.{nothing}
use Rattle.cedar_server.proofs.Told.{Told, told_all, told_fault, told_most, told_policy}
use Rattle.cedar_server.proofs.last_text.LastText.read.Goals as goal

pub steps-init : goal.steps-init
steps-init c = record {
  of_text = c.new-reader.ensures.text;
  few = omega (arith, ap length c.new-diagnoses.ensures.items);
  told = ([], rw c.new-reader.ensures.at (nothing 0), c.new-diagnoses.ensures.items);
  standing = λ before. before;
}

pub steps-preserved-in-Policy : goal.steps-preserved-in-Policy
steps-preserved-in-Policy c =
    let i = c.steps.invariant in
    let s = rw i.of_text at (rw c.in-Policy.is at c.in_ok-step.ensures.step) in
    record {
      of_text = c.in_ok-step.ensures.text ∙ i.of_text;
      few = i.few;
      told = told_policy c.args.encoding c.args.text.now c.steps.reader.at s.0 c.step.new.reader.at c.steps.diagnoses.items i.told s.1 s.2;
      standing = λ before. rw i.of_text at c.in_ok-step.ensures.standing (i.standing before);
    }

pub steps-preserved : goal.steps-preserved
steps-preserved c =
    let i = c.steps.invariant in
    let d = c.in_ok-diagnosis-in-Fault.diagnosis in
    let s = rw i.of_text at (rw c.in-Fault.is at c.in_ok-step.ensures.step) in
    let told : Told c.args.encoding c.args.text.now c.step.new.reader.at (c.steps.diagnoses.items ++ d ∷ []) =
    told_fault c.args.encoding c.args.text.now c.steps.reader.at c.step.new.reader.at c.steps.diagnoses.items c.in-Fault.fault d
    i.told s c.in_ok-diagnosis-in-Fault.ensures in
    record {
      of_text = c.in_ok-step.ensures.text ∙ i.of_text;
      few = omega (arith, i.few, c.if-len-eq-MOST.false, c.len.ensures, ap length c.in_ok-push-in-Fault-2.ensures.items, length-append c.steps.diagnoses.items (d ∷ []));
      told = subst (Told c.args.encoding c.args.text.now c.step.new.reader.at) (sym c.in_ok-push-in-Fault-2.ensures.items) told;
      standing = λ before. rw i.of_text at c.in_ok-step.ensures.standing (i.standing before);
    }

pub returns-in-End-clause-diagnoses : goal.returns-in-End-clause-diagnoses
returns-in-End-clause-diagnoses c =
    let i = c.steps.invariant in
    told_all c.args.encoding c.args.text.now c.steps.reader.at c.steps.diagnoses.items i.told i.few
    (rw i.of_text at (rw c.in-End.is at c.in_ok-step.ensures.step))

pub returns-then-len-eq-MOST-clause-diagnoses : goal.returns-then-len-eq-MOST-clause-diagnoses
returns-then-len-eq-MOST-clause-diagnoses c =
    let i = c.steps.invariant in
    let s = rw i.of_text at (rw c.in-Fault.is at c.in_ok-step.ensures.step) in
    told_most c.args.encoding c.args.text.now c.steps.reader.at c.step.new.reader.at c.steps.diagnoses.items _
    c.in-Fault.fault c.in_ok-last-in-Fault.last i.told (omega (arith, c.len.ensures, c.if-len-eq-MOST.true)) s
    c.in_ok-last-in-Fault.ensures c.in_ok-push-in-Fault.ensures.items

pub returns-then-len-eq-MOST-clause-standing : goal.returns-then-len-eq-MOST-clause-standing
returns-then-len-eq-MOST-clause-standing c =
    let i = c.steps.invariant in
    λ before. rw i.of_text at c.in_ok-step.ensures.standing (i.standing before)
