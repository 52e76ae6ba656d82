use Rattle.cedar_grammar.specs.Refusals.{Refuses}
use Rattle.cedar_grammar.proofs.Memory.{without_memory}
use Rattle.cedar_policy_formatter.proofs.fmt.is_accepted.Goals.{in-Ok, in-Err+then-is_memory, in-Err+else-is_memory}
use Rattle.cedar_policy_formatter.proofs.fmt.is_accepted.Goals as goal

pub returns : goal.returns
returns c = elim c.match-parse_policies.branch [
  | in-Ok w ↦ rw w.result-is (c.tree_is_of_accepted.ensures c.args.text.now _ w.in-Ok.ensures.tree)
  | in-Err+then-is_memory w ↦ rw w.result-is tt
  | in-Err+else-is_memory w ↦ rw w.result-is
      (λ a. c.accepted_is_not_refused.ensures c.args.text.now w.in-Err.e a
      (without_memory (Refuses c.args.text.now) w.in-Err.e
      (rw w.if-is_memory.false at w.is_memory.ensures) w.in-Err.ensures.refusal))
]
