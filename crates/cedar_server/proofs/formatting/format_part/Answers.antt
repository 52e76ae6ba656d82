use Rattle.std.proofs.Common.{◌≢◌, rules}
use Rattle.cedar_tokens.specs.declared.token.Span.{Span}
use Rattle.cedar_grammar.specs.declared.error.FormatError.TheVariants.{OutOfMemory}
use Rattle.cedar_policy_formatter.specs.RangeEdits.{IsRefusedAt}
use Rattle.cedar_policy_formatter.proofs.OnlyMemory.{not_memory}
use Rattle.cedar_server.proofs.formatting.format_part.Goals as goal

pub returns-in-Err : goal.returns-in-Err
returns-in-Err c =
    let touched : Span = record { start = c.offset_at.result; end = c.offset_at-2.result } in
    let other : c.in-Err.field-0 ≢ OutOfMemory = search rules in (
      touched,
      record { first = c.offset_at.ensures.offset; last = c.offset_at-2.ensures.offset },
      c.in-Err.field-0,
      not_memory (IsRefusedAt c.args.text.now touched) c.in-Err.field-0 other
          c.in-Err.ensures.answer,
    )
