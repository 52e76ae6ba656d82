use Rattle.std.proofs.Common.{◌≡◌, ◌∙◌, ◌<◌, ap, arith, false, get_or, inl, inr, length, map, refl, subst, sym, take_all, true}
use Rattle.std.proofs.lemmas.List.{get_or-map, length-map, with_items_is}
use Rattle.std.specs.Prelude.{◌↔◌, IsTrue}
use Rattle.std.specs.List.{Any}
use Rattle.cedar_files.specs.declared.excludes.Rule.{Rule}
use Rattle.cedar_files.specs.Excludes.{IsFor, IsMetAt, asked}
use Rattle.cedar_files.proofs.ExcludeLemmas.{MetBelow, any_more, map_stays, met_more}
use Rattle.cedar_files.proofs.excludes.Excludes.leaves.Goals.{then-branch, else-branch}
use Rattle.cedar_files.proofs.excludes.Excludes.leaves.Goals as goal

pub loop-rule-preserved : goal.loop-rule-preserved
loop-rule-preserved c =
    let i = c.loop-rule.rule-index in
    let items = c.loop-rule.rule-items in
    let first = c.deref_mut-rule-items.result.now in
    let rule = get_or items i c.rule-item.result in
    let same = c.loop-rule.invariant.0 in
    let many = c.loop-rule.auto.rule-items in
    let inside = c.loop-rule-test.true in
    let within = subst (λ xs. i < length xs) same (omega (arith, many, inside, length-map items asked)) in
    let is = ap (λ xs. get_or xs i (asked rule)) (sym same)
    ∙ get_or-map asked items i c.rule-item.result (asked rule) (omega (arith, many, inside)) in
    let more = any_more (IsFor c.args.path.now c.args.below.now c.args.self.now.folder.now) (map asked first) i (asked rule) within is in
    let found = c.in_ok-matches.ensures in
    let met_here = λ (z : Rule).
    met_more c.args.path.now c.args.below.now c.args.self.now.folder.now first items c.if-branch.rule-items i c.rule-item.result z
    (omega (arith, many, inside)) c.loop-rule.invariant.2 in
    elim c.if-branch.branch [
      | then-branch w ↦ (
        ap (λ xs. map asked xs) w.rule-items-is ∙ map_stays asked items i c.rule-item.result _ (omega (arith, many, inside)) refl ∙ same,
        (
          λ t. more.1 (inr (found.0 (subst (λ b. IsTrue b) (sym w.if-branch.true) refl))),
          λ a. subst (λ b. IsTrue b) (sym w.is_left-is) refl,
        ),
        met_here _ (record {
          word = refl;
          met = (λ t. inr (found.0 (subst (λ b. IsTrue b) (sym w.if-branch.true) refl)), λ t. refl);
        }) w.rule-items-is,
      )
      | else-branch w ↦ (
        ap (λ xs. map asked xs) w.rule-items-is ∙ map_stays asked items i c.rule-item.result _ (omega (arith, many, inside)) refl ∙ same,
        (
          λ t. more.1 (inl (c.loop-rule.invariant.1.0 (subst (λ b. IsTrue b) w.is_left-is t))),
          λ a. elim (more.0 a) [
            | inl h ↦ subst (λ b. IsTrue b) (sym w.is_left-is) (c.loop-rule.invariant.1.1 h)
            | inr p ↦ let bad : false ≡ true = sym w.if-branch.false ∙ found.1 p in cc
          ],
        ),
        met_here _ (record {
          word = refl;
          met = (
            λ t. inl t,
            elim [
              | inl t ↦ t
              | inr p ↦ let bad : false ≡ true = sym w.if-branch.false ∙ found.1 p in cc
            ],
          );
        }) w.rule-items-is,
      )
    ]

pub returns-clause-left : goal.returns-clause-left
returns-clause-left c =
    let i = c.loop-rule.rule-index in
    let first = c.deref_mut-rule-items.result.now in
    let all = take_all i (map asked first) (omega (arith, c.loop-rule-test.false, length-map first asked)) in
    subst (λ xs. IsTrue c.loop-rule.is_left ↔ Any (IsFor c.args.path.now c.args.below.now c.args.self.now.folder.now) xs)
    (all ∙ ap (λ xs. map asked xs) c.deref_mut-rule-items.ensures.value) c.loop-rule.invariant.1

pub returns-clause-met : goal.returns-clause-met
returns-clause-met c =
    let rules = c.args.self.now.rules in
    let first = c.deref_mut-rule-items.result.now in
    let items = c.loop-rule.rule-items in
    let path = c.args.path.now in
    let below = c.args.below.now in
    let folder = c.args.self.now.folder.now in
    let is_first = c.deref_mut-rule-items.ensures.value in
    let met = subst (λ xs. MetBelow path below folder xs c.loop-rule.rule-index items) is_first c.loop-rule.invariant.2 in
    let many : length items ≡ length rules.items = c.loop-rule.auto.rule-items ∙ ap (λ xs. length xs) is_first in
    let whole = with_items_is rules items (many ∙ sym rules.ok.0) in
    record {
      rules = ap (λ xs. length xs) whole ∙ many;
      each = λ k d less. subst (λ xs. IsMetAt path below folder (get_or rules.items k d) (get_or xs k d)) (sym whole)
          (met.0 k d (omega (arith, less, many, c.loop-rule-test.false)));
    }
