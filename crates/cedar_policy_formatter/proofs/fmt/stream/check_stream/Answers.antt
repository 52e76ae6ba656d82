use Rattle.std.proofs.Common.{ℕ, List, subst, sym}
use Rattle.std.proofs.lemmas.Result.{err_from_is_err_and}
use Rattle.cedar_streams.specs.Devices.{device_of}
use Rattle.cedar_streams.specs.Texts.{GivesText}
use Rattle.cedar_grammar.proofs.Memory.{memory_map}
use Rattle.cedar_written.specs.Refusals.{Refuses}
use Rattle.cedar_policy_formatter.proofs.Runs.{unread}
use Rattle.cedar_policy_formatter.proofs.fmt.stream.check_stream.Goals as goal

pub returns-in_err-ps-clause-check : goal.returns-in_err-ps-clause-check
returns-in_err-ps-clause-check g c =
    let p = err_from_is_err_and c.from_residual.result c.from_residual.ensures.1 in
    rw (p.1, p.2) (unread _ _ c.in_err-ps.field-0.0 c.in_err-ps.ensures.text)

pub returns-in-Ok-clause-check : goal.returns-in-Ok-clause-check
returns-in-Ok-clause-check g c =
    let old = g.R.Read.remaining (device_of c.args.input.now) in
    let new = g.R.Read.remaining (device_of c.read_text.new.input) in (
      c.as_str.result.now,
      subst (GivesText old new) (sym c.as_str.ensures.value) c.in_ok-ps.ensures.text,
      c.in-Ok.ensures.answer,
      c.in-Ok.ensures.output,
    )

pub returns-clause-check : goal.returns-clause-check
returns-clause-check g c =
    let old = g.R.Read.remaining (device_of c.args.input.now) in
    let new = g.R.Read.remaining (device_of c.read_text.new.input) in
    memory_map (Refuses c.as_str.result.now) (λ e. (x : List ℕ) × GivesText old new x × Refuses x e)
    (λ e h. (
      c.as_str.result.now,
      subst (GivesText old new) (sym c.as_str.ensures.value) c.in_ok-ps.ensures.text,
      h,
    )) c.in-Err.error c.in-Err.ensures.answer
