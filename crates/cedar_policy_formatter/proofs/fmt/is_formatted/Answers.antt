use Rattle.std.proofs.lemmas.Result.{err_from_is_err_and}
use Rattle.cedar_policy_formatter.proofs.Comparisons.{formatted_tells}
use Rattle.cedar_policy_formatter.proofs.Sinks.{used_up}
use Rattle.cedar_policy_formatter.proofs.fmt.is_formatted.Goals as goal

pub returns-clause-answer : goal.returns-clause-answer
returns-clause-answer c =
    (c.written_texts_agree.ensures.accepted c.args.ps.now).0 c.in_ok-write_policies.ensures.answer

pub returns-in_err-write_policies-clause-answer : goal.returns-in_err-write_policies-clause-answer
returns-in_err-write_policies-clause-answer c =
    let p = err_from_is_err_and c.from_residual.result c.from_residual.ensures.1 in
    rw (p.1, p.2) ((c.written_texts_agree.ensures.errors c.args.ps.now
    c.in_err-write_policies.field-0.0).0 c.in_err-write_policies.ensures.answer)

pub returns-clause-output : goal.returns-clause-output
returns-clause-output c =
    let w = c.args.config.now.line_width in
    let i = c.args.config.now.indent_width in
    let text = c.args.ps.now in
    let made = c.in_ok-write_policies.ensures.output in
    formatted_tells c.outputs_are_canonical.ensures.equal c.listing_is_unique.ensures w i text
    made.0 c.is_used_up.result c.utf8.ps
    (c.written_outputs_agree.ensures.there w i text made.0 c.utf8.ps made.1)
    (used_up text made.0 _ _ c.is_used_up.result c.new-rest.ensures made.2 c.is_used_up.ensures)
