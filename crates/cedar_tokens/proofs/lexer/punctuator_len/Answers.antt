use Rattle.std.proofs.Common.{sym, ◌∙◌, Some}
use Rattle.cedar_tokens.proofs.Longest.{punctuator_pair, punctuator_single, punctuator_none, at_rest}
use Rattle.cedar_tokens.proofs.lexer.punctuator_len.Goals as goal

pub returns-then-begins_double_punctuator : goal.returns-then-begins_double_punctuator
returns-then-begins_double_punctuator c =
    let w = c.if-begins_double_punctuator.ensures in
    at_rest _ _ (Some 2) w.2 (punctuator_pair _ w.0 w.1 w.3)

pub returns-then-is_punctuator : goal.returns-then-is_punctuator
returns-then-is_punctuator c = punctuator_single _ _
    (sym c.is_punctuator.ensures ∙ c.if-is_punctuator.true) c.if-begins_double_punctuator.ensures

pub returns-else-is_punctuator : goal.returns-else-is_punctuator
returns-else-is_punctuator c = punctuator_none _ _
    (λ h. absurd (let f = sym c.is_punctuator.ensures ∙ c.if-is_punctuator.false in cc (h, f)))
    c.if-begins_double_punctuator.ensures
