use Rattle.std.proofs.Common.{◌≡◌, ◌∷◌, ◌++◌, drop}
use Rattle.cedar_grammar.specs.Trees.{leaf, none}
use Rattle.std.specs.Prelude.{codes}
use Rattle.cedar_grammar.specs.Erased.{annotation_trees, cond_trees, policy_parts}
use Rattle.cedar_documents.specs.Items.{at, items_of, listed}
use Rattle.cedar_documents.proofs.policies.list_policy.Given as goal
use Rattle.cedar_documents.proofs.Listing.{after_annotations}

-- In each loop, what is listed and what is to come is the whole.

abbrev pub invariant-loop-annotation : goal.invariant-loop-annotation
invariant-loop-annotation l = items_of l.out.items ++ listed (annotation_trees
    (drop l.annotation-index l.policy.inner.annotations.items) (after_annotations l.policy.inner))
    ≡ items_of l.fn.out.items ++ at l.policy.span.start ∷ listed (policy_parts l.policy.inner)

abbrev pub invariant-loop-cond : goal.invariant-loop-cond
invariant-loop-cond l = items_of l.out.items
    ++ listed (cond_trees (drop l.cond-index l.policy.inner.conds.items) (leaf (codes ";") none))
    ≡ items_of l.fn.out.items ++ at l.policy.span.start ∷ listed (policy_parts l.policy.inner)
