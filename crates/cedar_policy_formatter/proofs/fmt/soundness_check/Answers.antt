use Rattle.std.proofs.Common.{rules, inl, inr}
use Rattle.cedar_grammar.specs.Refusals.{Refuses}
use Rattle.cedar_grammar.proofs.Memory.{without_memory}
use Rattle.cedar_policy_formatter.proofs.fmt.soundness_check.Goals as goal

pub returns-then-same_tree : goal.returns-then-same_tree
returns-then-same_tree c =
    (c.in-Ok.other, c.in-Ok.ensures.tree, c.same_tree.ensures.0 c.if-same_tree.true)

pub returns : goal.returns
returns c =
    inl (λ a. c.accepted_is_not_refused.ensures c.args.ps.now c.in-Err.field-0 a (without_memory
    (Refuses c.args.ps.now) c.in-Err.field-0 (λ e. search rules) c.in-Err.ensures.refusal))

pub returns-in-Ok : goal.returns-in-Ok
returns-in-Ok c = inr (
  c.in-Ok.other,
  c.in-Ok.ensures.tree,
  λ s. let h = c.same_tree.ensures.1 s in let f = c.if-same_tree.false in absurd cc,
)
