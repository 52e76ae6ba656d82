use Rattle.std.proofs.Common.{[], ◌∷◌, ◌∙◌}
use Rattle.cedar_faults.specs.Faults.SearchFinds.{nothing}
use Rattle.cedar_faults.proofs.Searching.{all_found, finds_on}
use Rattle.cedar_faults.proofs.listing.faults.Goals as goal

pub faults-init : goal.faults-init
faults-init c = record {
  of_text = c.new-reader.ensures.text;
  passed = rw (c.new-faults.ensures.items, c.new-reader.ensures.at) (nothing 0);
}

pub returns-in_default : goal.returns-in_default
returns-in_default c =
    let i = c.faults.invariant in
    let all = all_found c.args.text.now c.faults.reader.at c.faults.faults.items i.passed (rw i.of_text at (rw c.in_default.is at c.in_ok-fault.ensures.faults)) in
    all

pub faults-preserved : goal.faults-preserved
faults-preserved c =
    let i = c.faults.invariant in record {
      of_text = c.in_ok-fault.ensures.text ∙ i.of_text;
      passed = rw c.in_ok-push.ensures.items (finds_on c.args.text.now 0 c.faults.reader.at c.next.new.self.at c.faults.faults.items (c.in-Some.fault ∷ []) i.passed (rw i.of_text at (rw c.in-Some.is at c.in_ok-fault.ensures.faults)));
    }
