use Rattle.std.proofs.Common.{◌≡◌, IfOk, Some, string_bytes, subst, sym}
use Rattle.std.proofs.lemmas.Result.{IfOk-weaker}
use Rattle.cedar_faults.specs.Expectations.{IsExpected}
use Rattle.cedar_faults.specs.Messages.{expected_text}
use Rattle.cedar_faults.specs.Sentences.{IsSaid}
use Rattle.cedar_faults.proofs.explain.explain.Goals as goal

pub returns-in-Some : goal.returns-in-Some
returns-in-Some c =
    let text = c.args.text.now in
    let e : IsExpected text c.in-Some.expected = rw c.in-Some.is at c.in_ok-expected.ensures in
    let said : IfOk c.format.result (λ s. string_bytes s ≡ expected_text c.in-Some.expected) =
    c.format.ensures.ok in
    IfOk-weaker c.format.result _ _ (λ s h. subst (λ error. IsSaid text error (string_bytes s))
    (sym c.in-Grammar.is) (Some c.in-Some.expected, (e, h))) said
