use Rattle.std.proofs.Common.{[], ◌∷◌, ◌∙◌, arith, length, inl, ap, length-append}
use Rattle.cedar_faults.specs.Faults.SearchFinds.{nothing}
use Rattle.cedar_faults.proofs.Searching.{all_found, finds_on}
use Rattle.cedar_faults.proofs.listing.first_faults.Goals as goal

pub first-init : goal.first-init
first-init c = record {
  of_text = c.new-reader.ensures.text;
  count = omega (arith, ap length c.new-first.ensures.items);
  passed = rw (c.new-first.ensures.items, c.new-reader.ensures.at) (nothing 0);
}

pub returns-in_default : goal.returns-in_default
returns-in_default c =
    let i = c.first.invariant in
    let all = all_found c.args.text.now c.first.reader.at c.first.first.items i.passed (rw i.of_text at (rw c.in_default.is at c.in_ok-fault.ensures.faults)) in
    inl (all, i.count)

pub first-preserved : goal.first-preserved
first-preserved c =
    let i = c.first.invariant in record {
      of_text = c.in_ok-fault.ensures.text ∙ i.of_text;
      count = omega (arith, c.first-test.true, c.len.ensures, ap length c.in_ok-push.ensures.items, length-append c.first.first.items (c.in-Some.fault ∷ []));
      passed = rw c.in_ok-push.ensures.items (finds_on c.args.text.now 0 c.first.reader.at c.next.new.self.at c.first.first.items (c.in-Some.fault ∷ []) i.passed (rw i.of_text at (rw c.in-Some.is at c.in_ok-fault.ensures.faults)));
    }
