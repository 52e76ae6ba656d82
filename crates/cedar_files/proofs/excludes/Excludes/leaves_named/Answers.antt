use Rattle.std.proofs.Common.{◌≡◌, ◌∙◌, arith, false, inl, inr, refl, subst, sym, true}
use Rattle.std.proofs.lemmas.Bool.{cases_lt}
use Rattle.cedar_files.specs.Excludes.{LeavesAbove}
use Rattle.cedar_files.proofs.ExcludeLemmas.{above_still, named_last, same_again, same_back}
use Rattle.cedar_files.proofs.excludes.Excludes.leaves_named.Goals as goal

pub returns-then-branch-clause-left : goal.returns-then-branch-clause-left
returns-then-branch-clause-left c = (
  λ t. inl (
    c.loop-at.at,
    above_still c.args.self.now c.loop-at.self c.args.path.now c.loop-at.at c.loop-at.invariant.0
        (c.in_ok-leaves_above.ensures.left.0 c.if-branch.true),
  ),
  λ h. refl,
)

pub loop-at-preserved : goal.loop-at-preserved
loop-at-preserved c =
    let old = c.args.self.now in
    let now = c.loop-at.self in
    let path = c.args.path.now in
    let at = c.loop-at.at in
    let same = c.loop-at.invariant.0 in (
      same_again old now c.leaves_above.new.self same c.leaves_above.ensures.same,
      λ n less h. elim (cases_lt n at) [
        | inl before ↦ c.loop-at.invariant.1 n before h
        | inr after ↦
            let is : n ≡ at = omega (arith, less, after) in
            let there = above_still now old path at (same_back old now same) (subst (λ k. LeavesAbove old path k) is h) in
            let bad : false ≡ true = sym c.if-branch.false ∙ c.in_ok-leaves_above.ensures.left.1 there in cc
      ],
    )

pub returns-clause-left : goal.returns-clause-left
returns-clause-left c =
    named_last c.args.self.now c.loop-at.self c.args.path.now c.leaves.result c.loop-at.invariant.0
    (λ n less. c.loop-at.invariant.1 n (omega (arith, less, c.loop-at-test.false))) c.leaves.ensures.left
