use Rattle.std.proofs.Common.{suc, refl, sym, ◌∙◌}
use Rattle.cedar_grammar.specs.Texts.{greatest_depth}
use Rattle.cedar_grammar.specs.Trees.{Label}
use Rattle.cedar_grammar.specs.Reader.Reading.{Reader}
use Rattle.cedar_grammar.specs.Reader.Lines.{policy_rule}
use Rattle.cedar_grammar.specs.Erased.{policy_parts}
use Rattle.cedar_cst.specs.ReadingExprs.{at_depth}
use Rattle.cedar_reading.specs.declared.lexeme.Lexeme.{Lexeme}
use Rattle.cedar_reading.proofs.Steps.{passes}
use Rattle.cedar_reading.proofs.Refusals.{refused}
use Rattle.cedar_reading.proofs.Operands.{keep_done, keep_fails, keep_shorter}
use Rattle.cedar_reading.proofs.Manys.{many_first, many_next}
use Rattle.cedar_cst.proofs.Depths.{depth_takes}
use Rattle.cedar_cst.proofs.Sets.{starts, set_fails, set_left, set_stuck, set_done, set_given}
use Rattle.cedar_cst.proofs.cst.policies.parse_set.Goals as goal

abbrev P : Reader Lexeme
P = at_depth (suc greatest_depth) policy_rule

pub policies-init : goal.policies-init
policies-init c = many_first Label.policy policy_parts starts P _ _ c.new-policies.ensures.items

pub policies-preserved : goal.policies-preserved
policies-preserved c =
    let k = keep_done Label.policy policy_parts c.parse_policy.result _ _ c.keep.new.rest
    c.in_ok-keep.field-0 _ c.parse_policy.ensures.reads c.in_ok-keep.ensures in
    many_next Label.policy policy_parts starts P refl
    (depth_takes (suc greatest_depth) policy_rule refl refl) _ _ _ _ _ k.0 k.1 c.policies.invariant
    (sym c.begins_policy.ensures ∙ c.policies-test.true) k.2 k.3 k.4

pub policies-smaller : goal.policies-smaller
policies-smaller c = keep_shorter c.parse_policy.result _ _ c.keep.new.rest c.in_ok-keep.field-0 _
    c.parse_policy.ensures.shorter c.in_ok-keep.ensures

pub returns-in_err-keep : goal.returns-in_err-keep
returns-in_err-keep c =
    rw (refused c.from_residual.ensures.1) (set_fails _ _ (passes _ _ _ (keep_fails Label.policy
    policy_parts c.parse_policy.result _ _ _ _ _ c.parse_policy.ensures.reads c.in_err-keep.ensures)
    (λ x r e. set_stuck P _ _ _ x r c.policies.invariant
    (sym c.begins_policy.ensures ∙ c.policies-test.true) e)))

pub returns-then-is_empty : goal.returns-then-is_empty
returns-then-is_empty c = set_given P _ _ (record { policies = c.policies.policies })
    c.policies.invariant (sym c.begins_policy.ensures ∙ c.policies-test.false)
    (sym c.is_empty.ensures ∙ c.if-is_empty.true)

pub returns : goal.returns
returns c =
    set_left c.refuse.result _ _ _ c.refuse.ensures (sym c.is_empty.ensures ∙ c.if-is_empty.false)
    (set_done P _ _ _ c.policies.invariant (sym c.begins_policy.ensures ∙ c.policies-test.false))
