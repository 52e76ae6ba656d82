use Rattle.std.proofs.Common.{sym, ◌∙◌, rules, arith}
use Rattle.std.proofs.lemmas.Str.Pattern.{strip_prefix_char}
use Rattle.cedar_reading.proofs.Digits.{strip_zero, one_zero, no_zero}
use Rattle.cedar_reading.proofs.literals.without_zeros.Goals as goal
use Rattle.cedar_tokens.specs.Bytes.{digit_zero}

pub zeros-preserved : goal.zeros-preserved
zeros-preserved c =
    let e = strip_prefix_char digit_zero c.zeros.rest.now c.strip_prefix.result
    c.strip_prefix.ensures.cases
    (omega arith) in (
      search rules,
      sym (strip_zero _ _ (rw c.in-Some.is at e) (sym c.is_empty.ensures ∙ c.if-is_empty.false))
          ∙ c.zeros.invariant.1,
    )

pub returns-then-is_empty : goal.returns-then-is_empty
returns-then-is_empty c =
    let e = strip_prefix_char digit_zero c.zeros.rest.now c.strip_prefix.result
    c.strip_prefix.ensures.cases
    (omega arith) in
    one_zero _ _ (rw c.in-Some.is at e) (sym c.is_empty.ensures ∙ c.if-is_empty.true)
    ∙ c.zeros.invariant.1

pub returns-in_default : goal.returns-in_default
returns-in_default c =
    let e = strip_prefix_char digit_zero c.zeros.rest.now c.strip_prefix.result
    c.strip_prefix.ensures.cases
    (omega arith) in
    no_zero _ (rw c.in_default.is at e) ∙ c.zeros.invariant.1
