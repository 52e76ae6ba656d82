use Rattle.std.proofs.Common.{sym, ap, ◌∙◌}
use Rattle.cedar_tokens.specs.Inside.FixedTexts.{fixed_text, is_open}
use Rattle.cedar_tokens.proofs.KindsOfTexts.{text_is_fixed, string_of_kind, number_of_kind, word_of_kind, open_kind}
use Rattle.cedar_tokens.proofs.token.token_of.Goals as goal

pub returns-in-Some-clause-text : goal.returns-in-Some-clause-text
returns-in-Some-clause-text c =
    let same = c.requires.kind in
    c.in-Some.ensures.fixed.0 ∙ (ap fixed_text same
    ∙ sym (text_is_fixed c.args.text.now (ap is_open (sym same) ∙ c.in-Some.ensures.other)))

pub returns-in-Str-clause-proper : goal.returns-in-Str-clause-proper
returns-in-Str-clause-proper c =
    rw c.in_ok-owned.ensures.ok
    (string_of_kind c.args.text.now c.requires.token (sym c.requires.kind ∙ c.in-Str.is))

pub returns-in-Number-clause-proper : goal.returns-in-Number-clause-proper
returns-in-Number-clause-proper c =
    rw c.in_ok-owned.ensures.ok
    (number_of_kind c.args.text.now c.requires.token (sym c.requires.kind ∙ c.in-Number.is))

pub returns-in_default-kind : goal.returns-in_default-kind
returns-in_default-kind c =
    let word = open_kind c.args.kind c.in_default.ensures.open c.in_default-kind.not-Str
    c.in_default-kind.not-Number in
    record {
      text = c.in_ok-owned.ensures.ok;
      proper = rw c.in_ok-owned.ensures.ok
          (word_of_kind c.args.text.now c.requires.token (sym c.requires.kind ∙ word));
    }
