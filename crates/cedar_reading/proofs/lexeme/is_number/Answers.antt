use Rattle.std.proofs.Common.{sym, ◌∙◌}
use Rattle.cedar_reading.proofs.Walking.{number_by_parts}
use Rattle.cedar_reading.proofs.lexeme.is_number.Goals as goal

pub returns-then-is_ascii_digit : goal.returns-then-is_ascii_digit
returns-then-is_ascii_digit c =
    number_by_parts _ _ _ _ (sym c.as_bytes.ensures.value ∙ c.in-Some.ensures.cases.0)
    (sym c.is_ascii_digit.ensures.value ∙ c.if-is_ascii_digit.true) c.all_digits.ensures
