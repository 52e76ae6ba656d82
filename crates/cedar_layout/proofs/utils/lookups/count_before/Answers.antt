use Rattle.std.proofs.Common.{◌≡◌, ◌+◌, ◌-◌, ◌/◌, ◌<◌, ◌≤◌, ℕ, true, false, length, get_or, arith}
use Rattle.std.specs.Prelude.{nat_le}
use Rattle.std.proofs.lemmas.Bool.Decides.{nat_tests}
use Rattle.cedar_layout.specs.Inside.Halving.{edge_of}
use Rattle.cedar_layout.proofs.Halving.{below_middle, above_middle, halved, first_passing}
use Rattle.cedar_layout.proofs.utils.lookups.count_before.Goals as goal

pub loop-low-preserved-then-of-at : goal.loop-low-preserved-then-of-at
loop-low-preserved-then-of-at g c =
    let m = c.loop-low.low + (c.loop-low.high - c.loop-low.low) / 2 in
    let i = c.loop-low.invariant in
    let test = c.loop-low-test.true in
    let inside : m < length c.args.tokens.now = omega (arith, i.fits, test) in
    let left : c.loop-low.high - (m + 1) + (c.loop-low.high - (m + 1))
    ≤ c.loop-low.high - c.loop-low.low = omega (arith, test) in
    record {
      ordered = omega (arith, test);
      fits = i.fits;
      below = below_middle c.args.edge c.args.at c.args.tokens.now m c.index-tokens-middle.result
          c.requires inside (omega (arith, c.of.ensures, c.if-of-at.true));
      above = i.above;
      grows = omega (arith, c.tick.ensures, i.grows);
      least = λ h. omega (arith, c.tick.ensures, i.grows);
      most = λ d h. let b = i.most d h in
          let r = halved (c.loop-low.high - c.loop-low.low) (c.loop-low.high - (m + 1)) b.0
          c.loop-low.steps (c.args.steps.now + d) (omega (arith, test)) left b.1 b.2 in
          (r.0, r.1, omega (arith, r.2, c.tick.ensures));
    }

pub loop-low-preserved : goal.loop-low-preserved
loop-low-preserved g c =
    let m = c.loop-low.low + (c.loop-low.high - c.loop-low.low) / 2 in
    let i = c.loop-low.invariant in
    let test = c.loop-low-test.true in
    let inside : m < length c.args.tokens.now = omega (arith, i.fits, test) in
    let left : m - c.loop-low.low + (m - c.loop-low.low) ≤ c.loop-low.high - c.loop-low.low =
    omega (arith, test) in
    record {
      ordered = omega (arith, test);
      fits = omega (arith, i.fits, test);
      below = i.below;
      above = above_middle c.args.edge c.args.at c.args.tokens.now m c.index-tokens-middle.result
          c.requires inside (omega (arith, c.of.ensures, c.if-of-at.false));
      grows = omega (arith, c.tick.ensures, i.grows);
      least = λ h. omega (arith, c.tick.ensures, i.grows);
      most = λ d h. let b = i.most d h in
          let r = halved (c.loop-low.high - c.loop-low.low) (m - c.loop-low.low) b.0
          c.loop-low.steps (c.args.steps.now + d) (omega (arith, test)) left b.1 b.2 in
          (r.0, r.1, omega (arith, r.2, c.tick.ensures));
    }

pub returns-clause-place : goal.returns-clause-place
returns-clause-place g c =
    let i = c.loop-low.invariant in
    first_passing (λ t. nat_le c.args.at (edge_of c.args.edge t.span)) c.args.tokens.now
    c.loop-low.low (omega (arith, i.ordered, i.fits))
    (λ k d l.
    before (edge_of c.args.edge (get_or c.args.tokens.now k d).span) c.args.at (i.below k d l))
    (λ d l. from (edge_of c.args.edge (get_or c.args.tokens.now c.loop-low.low d).span) c.args.at
    (i.above c.loop-low.low d (omega (arith, c.loop-low-test.false)) l))
  where
    before : (n q : ℕ) → n < q → nat_le q n ≡ false
    before n q h = grind (arith, nat_tests)

    from : (n q : ℕ) → q ≤ n → nat_le q n ≡ true
    from n q h = grind (arith, nat_tests)
