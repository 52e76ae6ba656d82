use Rattle.std.proofs.Common.{◌≡◌, ◌∙◌, ◌+◌, Some, ap, arith, length, rules, subst, sym}
use Rattle.std.specs.Prelude.{min}
use Rattle.std.proofs.lemmas.Option.{get_or_from_slice_get, slice_get-get_or}
use denote.Enum.Bare.{same_false, same_true}
use Rattle.cedar_files.specs.contracts.changes.Change.{the_type}
use Rattle.cedar_files.specs.declared.changes.Change.TheVariants.{Keep}
use Rattle.cedar_files.proofs.HunkLemmas.{AreSoFar, all_so_far, changed_next, kept_next}
use Rattle.cedar_files.proofs.hunks.hunks_of.Goals as goal

pub loop-n-preserved-then-eq : goal.loop-n-preserved-then-eq
loop-n-preserved-then-eq c =
    let changes = c.args.changes.now in
    let n = c.loop-n.n in
    kept_next changes n c.loop-n.hunks.items c.loop-n.invariant
    (λ (inside, other). other (slice_get-get_or changes n Keep inside
    ∙ ap (λ change. Some change) (same_true the_type (search rules) _ _ (sym c.if-eq.ensures))))

pub loop-n-preserved : goal.loop-n-preserved
loop-n-preserved c =
    let changes = c.args.changes.now in
    let n = c.loop-n.n in
    let inside = c.loop-n-test.true in
    let end : c.min-end.result ≡ min (n + 4) (length changes) = omega (arith, c.min-end.ensures, c.saturating_add.ensures, inside) in
    changed_next changes n c.loop-n.hunks.items c.loop-n.invariant _ c.add_hunk.new.hunks.items
    (inside, λ is. same_false the_type _ _ (sym c.if-eq.ensures) (get_or_from_slice_get changes n Keep Keep is))
    c.saturating_sub-start.ensures end c.in_ok-add_hunk.ensures.shown
    (c.in_ok-add_hunk.ensures.order c.loop-n.invariant.order (omega (arith, inside, end, c.saturating_sub-start.ensures)))
    c.in_ok-add_hunk.ensures.before

pub returns : goal.returns
returns c =
    let changes = c.args.changes.now in
    let all : c.loop-n.n ≡ length changes = omega arith in
    all_so_far changes c.loop-n.hunks.items (subst (λ n. AreSoFar changes n c.loop-n.hunks.items) all c.loop-n.invariant)
