use Rattle.std.proofs.Common.{◌≡◌, ◌<◌, ◌++◌, [], ◌∷◌, length, arith, ap, subst, ◌∙◌}
use Rattle.std.specs.Prelude.{drop}
use Rattle.cedar_grammar.specs.Refusals.{Refuses, OutOfMemoryOr}
use Rattle.cedar_cst.specs.PolicyReaders.{HasPolicies, HasRead}
use Rattle.cedar_cst.proofs.Readers.{ends_inside}
use Rattle.cedar_faults.proofs.RightAfter.{never_read, never_placed, left_after}
use Rattle.cedar_faults.proofs.expected.leave.Goals.{in-Some, in-None}
use Rattle.cedar_faults.proofs.expected.leave.Goals as goal

pub returns-in-Ok-None : goal.returns-in-Ok-None
returns-in-Ok-None c =
    let text = c.args.text.now in
    let ps = c.policies.invariant.0 in
    let has : HasPolicies text ps =
    rw c.in-Ok-None.field-0-is at (c.in-Ok-None.ensures.answer text ps c.policies.invariant.1) in
    never_read c.accepted_is_not_refused.ensures text ps has

pub returns-in-Err : goal.returns-in-Err
returns-in-Err c =
    let text = c.args.text.now in
    let read = c.policies.invariant.1 in
    let r : OutOfMemoryOr (Refuses text) c.in-Err.error =
    subst (λ z. OutOfMemoryOr (Refuses z) c.in-Err.error) read.of_text c.in-Err.ensures.refusal in
    let rest : c.rest-rest.result.now ≡ drop c.policies.reader.at text =
    c.rest-rest.ensures ∙ (ap (λ p. drop p.at p.text) c.in-Err.ensures.refused
    ∙ ap (drop c.policies.reader.at) read.of_text) in
    elim c.match-branch-2.branch [
      | in-Some w ↦ rw w.result-is
          (left_after text c.rest-rest.result c.policies.reader c.policies.invariant.0 read
          c.in-Err.error _ w.in-Some.at c.in_ok-at-in-Err.ensures w.in-Some.is r rest)
      | in-None w ↦ rw w.result-is (never_placed c.refusal_is_unique.ensures text c.in-Err.error _
          c.in_ok-at-in-Err.ensures w.in-None.is r)
    ]

pub policies-smaller : goal.policies-smaller
policies-smaller c =
    let text = c.args.text.now in
    let old = c.policies.reader in
    let new = c.next.new.self in
    let ps = c.policies.invariant.0 in
    let more : HasRead new text (ps ++ c.in-Ok-Some.policy ∷ []) =
    rw c.in-Ok-Some.field-0-is at (c.in-Ok-Some.ensures.answer text ps c.policies.invariant.1) in
    let further : old.at < new.at = rw c.in-Ok-Some.field-0-is at c.in-Ok-Some.ensures.place in
    omega (
      arith,
      further,
      ends_inside text new.at more.ends,
      ap length more.of_text,
      ap length c.policies.invariant.1.of_text,
    )

pub policies-preserved : goal.policies-preserved
policies-preserved c =
    let ps = c.policies.invariant.0 in (
      ps ++ c.in-Ok-Some.policy ∷ [],
      rw c.in-Ok-Some.field-0-is at
          (c.in-Ok-Some.ensures.answer c.args.text.now ps c.policies.invariant.1),
    )
