use Rattle.std.proofs.Common.{ℕ, List, string_bytes, subst, sym}
use Rattle.std.proofs.KnownBytes.{Keeps-refl}
use Rattle.std.proofs.lemmas.Result.{err_from_is_err_and}
use Rattle.std.specs.Io.KnownBytes.{Appends}
use Rattle.cedar_streams.specs.Devices.{device_of}
use Rattle.cedar_streams.specs.Texts.{AppendsPart, GivesText}
use Rattle.cedar_grammar.proofs.Memory.{memory_map}
use Rattle.cedar_written.specs.Refusals.{Refuses}
use Rattle.cedar_policy_formatter.proofs.Runs.{without_text}
use Rattle.cedar_policy_formatter.proofs.fmt.stream.format_stream.Goals as goal

pub returns-in_err-text-clause-run : goal.returns-in_err-text-clause-run
returns-in_err-text-clause-run g c =
    let p = err_from_is_err_and c.from_residual.result c.from_residual.ensures.1 in
    rw (p.1, p.2) (without_text _ _ _ _ _ _ c.in_err-text.field-0.0 c.in_err-text.ensures.text
    (Keeps-refl (g.W.Write.contents (device_of c.args.output.now))))

pub returns-in-Err-clause-run : goal.returns-in-Err-clause-run
returns-in-Err-clause-run g c =
    let old = g.R.Read.remaining (device_of c.args.input.now) in
    let new = g.R.Read.remaining (device_of c.read_text.new.input) in (
      memory_map (Refuses c.as_str.result.now)
          (λ e. (x : List ℕ) × GivesText old new x × Refuses x e) (λ e h. (
            c.as_str.result.now,
            subst (GivesText old new) (sym c.as_str.ensures.value) c.in_ok-text.ensures.text,
            h,
          )) c.in-Err.error c.in-Err.ensures.answer,
      Keeps-refl (g.W.Write.contents (device_of c.args.output.now)),
    )

pub returns-in-Ok-write_until_failure-clause-run : goal.returns-in-Ok-write_until_failure-clause-run
returns-in-Ok-write_until_failure-clause-run g c =
    let old = g.R.Read.remaining (device_of c.args.input.now) in
    let new = g.R.Read.remaining (device_of c.read_text.new.input) in
    let held = g.W.Write.contents (device_of c.args.output.now) in
    let holds = g.W.Write.contents (device_of c.write_until_failure.new.output) in (
      string_bytes c.in-Ok.formatted,
      (
        c.as_str.result.now,
        subst (GivesText old new) (sym c.as_str.ensures.value) c.in_ok-text.ensures.text,
        c.in-Ok.ensures.answer,
      ),
      subst (Appends held holds) c.as_bytes.ensures.value c.in-Ok-write_until_failure.ensures.whole,
    )

pub returns-clause-run : goal.returns-clause-run
returns-clause-run g c =
    let old = g.R.Read.remaining (device_of c.args.input.now) in
    let new = g.R.Read.remaining (device_of c.read_text.new.input) in
    let held = g.W.Write.contents (device_of c.args.output.now) in
    let holds = g.W.Write.contents (device_of c.write_until_failure.new.output) in (
      string_bytes c.in-Ok.formatted,
      (
        c.as_str.result.now,
        subst (GivesText old new) (sym c.as_str.ensures.value) c.in_ok-text.ensures.text,
        c.in-Ok.ensures.answer,
      ),
      subst (AppendsPart held holds) c.as_bytes.ensures.value
          c.in-Err-write_until_failure.ensures.part,
    )
