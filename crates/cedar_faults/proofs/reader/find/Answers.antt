use Rattle.std.proofs.Common.{◌+◌, [], arith}
use Rattle.std.specs.Prelude.{drop}
use Rattle.cedar_grammar.specs.Texts.{Accepted}
use Rattle.cedar_faults.specs.Faults.SearchFinds.{nothing, policy}
use Rattle.cedar_faults.specs.Faults.{BeginsWithPolicy}
use Rattle.cedar_faults.proofs.Searching.{finds_on, inside_more, rest_is}
use Rattle.cedar_faults.proofs.reader.find.Goals as goal

pub policies-preserved : goal.policies-preserved
policies-preserved c =
    let text = c.args.text.now in
    let from = c.policies.from in
    let i = c.policies.invariant in
    let p : BeginsWithPolicy (drop from text) c.in-Policy.len =
    rw (rest_is text from c.range_from.result.now c.range_from.ensures.value) at (rw c.in-Policy.is at c.in_ok-len.ensures) in
    record {
      inside = inside_more text from c.in-Policy.len (rw c.range_from.ensures.value at c.range_from.utf8) i.inside p.boundary;
      order = omega (arith, i.order);
      passed = finds_on text c.args.at from (from + c.in-Policy.len) [] [] i.passed (policy from c.in-Policy.len (from + c.in-Policy.len) [] p (nothing (from + c.in-Policy.len)));
    }

pub returns-in-End : goal.returns-in-End
returns-in-End c =
    let text = c.args.text.now in
    let a : Accepted (drop c.policies.from text) =
    rw (rest_is text c.policies.from c.range_from.result.now c.range_from.ensures.value) at (rw c.in-End.is at c.in_ok-len.ensures) in
    (c.policies.from, c.policies.invariant.passed, a)

pub policies-init : goal.policies-init
policies-init c = record { inside = c.requires; order = omega arith; passed = nothing c.args.at }
