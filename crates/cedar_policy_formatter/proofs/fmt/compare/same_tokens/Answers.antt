use Rattle.std.proofs.Common.{◌≡◌, map, ap, sym, ◌∙◌}
use Rattle.cedar_tokens.specs.Tokens.{decorated}
use Rattle.cedar_laws.specs.Output.{with_value}
use Rattle.cedar_policy_formatter.specs.Inside.Alike.{plain_value}
use Rattle.cedar_policy_formatter.proofs.fmt.compare.same_tokens.Goals as goal

pub returns : goal.returns
returns c =
    let left : map with_value (map decorated c.deref.result.now)
    ≡ plain_value (map decorated c.args.a.now.items) =
    ap (map with_value)
    (ap (map decorated) c.deref.ensures.value ∙ c.in_ok-drop_trailing_commas.ensures.plain) in
    let right : map with_value (map decorated c.deref-2.result.now)
    ≡ plain_value (map decorated c.args.b.now.items) =
    ap (map with_value)
    (ap (map decorated) c.deref-2.ensures.value ∙ c.in_ok-drop_trailing_commas-2.ensures.plain) in
    let same = c.same_values.ensures in
    (λ h. sym left ∙ (same.0 h ∙ right), λ e. same.1 (left ∙ (e ∙ sym right)))
