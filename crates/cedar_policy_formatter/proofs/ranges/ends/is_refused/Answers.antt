use Rattle.std.proofs.Common.{◌≡◌, ◌≢◌, true, false, refl, rules}
use Rattle.cedar_grammar.specs.declared.error.FormatError.TheVariants.{OutOfMemory}
use Rattle.cedar_grammar.specs.Refusals.{Refuses}
use Rattle.cedar_policy_formatter.proofs.OnlyMemory.{not_memory}
use Rattle.cedar_policy_formatter.proofs.ranges.ends.is_refused.Goals as goal
use Rattle.cedar_policy_formatter.proofs.ranges.ends.is_refused.Goals.{in-Ok, in-Err-OutOfMemory, in-Err}

pub returns : goal.returns
returns c = elim c.match-parse_policies.branch [
  | in-Ok w ↦ rw w.result-is (
    λ yes. absurd (let e : false ≡ true = yes in cc),
    λ not_accepted. absurd (not_accepted (c.tree_is_of_accepted.ensures c.args.text.now _ w.in-Ok.ensures.tree)),
  )
  | in-Err-OutOfMemory w ↦ rw w.result-is tt
  | in-Err w ↦ rw w.result-is (
    λ _ accepted.
        let other : w.in-Err.field-0 ≢ OutOfMemory = search rules in
        c.accepted_is_not_refused.ensures c.args.text.now w.in-Err.field-0 accepted
        (not_memory (Refuses c.args.text.now) w.in-Err.field-0 other w.in-Err.ensures.refusal),
    λ _. refl,
  )
]
