use Rattle.std.proofs.Common.{rules, arith, ◌∙◌}
use Rattle.cedar_tokens.proofs.Reading.{closes_next, closes_end}
use Rattle.cedar_tokens.proofs.readers.TokenReader.closing.Goals as goal

pub tokens-preserved : goal.tokens-preserved
tokens-preserved c = record {
  leading_text = search rules;
  closes = λ text left spans h. closes_next c.tokens.leading.now c.tokens.ahead.text.now
      c.in-Some.first left.closing c.in-Some.ensures.token
      (omega (arith, c.in-Some.ensures.shorter)) (c.tokens.invariant.closes text left spans h);
}

pub returns : goal.returns
returns c = λ text l spans h.
    c.get_comment.ensures ∙ closes_end c.tokens.leading.now c.tokens.ahead.text.now l.closing
    c.in_default.ensures.token (c.tokens.invariant.closes text l spans h)
