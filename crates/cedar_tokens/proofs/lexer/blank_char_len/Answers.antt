use Rattle.std.proofs.Common.{sym, ◌∙◌}
use Rattle.cedar_tokens.proofs.Longest.{blank_finds, no_blank_finds, empty_finds_blank}
use Rattle.cedar_tokens.proofs.lexer.blank_char_len.Goals as goal

pub returns-in_err-first : goal.returns-in_err-first
returns-in_err-first c = rw c.from_residual.ensures
    (empty_finds_blank _ (rw c.chars.ensures.rest at c.in_err-first.ensures.steps.0.0))

pub returns-then-is_whitespace : goal.returns-then-is_whitespace
returns-then-is_whitespace c =
    blank_finds _ _ c.in_ok-first.first _ (sym c.chars.ensures.rest ∙ c.in_ok-first.ensures.steps.0)
    (sym c.is_whitespace.ensures ∙ c.if-is_whitespace.true) c.len_utf8.ensures.len

pub returns-else-is_whitespace : goal.returns-else-is_whitespace
returns-else-is_whitespace c = no_blank_finds _ _ c.in_ok-first.first (sym c.chars.ensures.rest
    ∙ c.in_ok-first.ensures.steps.0) (sym c.is_whitespace.ensures ∙ c.if-is_whitespace.false)
