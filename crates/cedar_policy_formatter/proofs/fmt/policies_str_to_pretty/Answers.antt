use Rattle.std.proofs.Common.{◌≡◌, ◌++◌, ap, sym, ◌∙◌, subst}
use Rattle.std.specs.Prelude.{string_bytes}
use Rattle.cedar_laws.specs.Canonical.{IsOutputOf}
use Rattle.cedar_policy_formatter.proofs.fmt.policies_str_to_pretty.Goals as goal

pub returns-clause-list : goal.returns-clause-list
returns-clause-list c =
    let w = c.args.config.now.line_width in
    let i = c.args.config.now.indent_width in
    let text = c.args.ps.now in
    let made = c.in_ok-write_policies.ensures.output in
    let out = string_bytes c.write_policies.new.sink in
    let same : out ≡ made.0 = made.2 ∙ ap (λ z. z ++ made.0) c.new-text.ensures.bytes in
    c.outputs_keep_lists.ensures.keeps w i text out c.utf8.ps
    (c.written_outputs_agree.ensures.there w i text out c.utf8.ps
    (subst (IsOutputOf w i text) (sym same) made.1))
