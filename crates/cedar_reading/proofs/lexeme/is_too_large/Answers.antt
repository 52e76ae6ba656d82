use Rattle.std.proofs.Common.{sym, ◌∙◌}
use Rattle.cedar_reading.proofs.Walking.{parse_limit}
use Rattle.cedar_reading.proofs.lexeme.is_too_large.Goals as goal

pub returns-then-is_number : goal.returns-then-is_number
returns-then-is_number c = c.is_err.ensures.value ∙ parse_limit c.args.text.now _
    c.parse.ensures.value.0 (sym c.is_number.ensures ∙ c.if-is_number.true)
