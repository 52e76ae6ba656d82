use Rattle.std.proofs.Common.{sym, ◌∙◌}
use Rattle.cedar_tokens.proofs.KindsOfTexts.{kind_of-not_fixed}
use Rattle.cedar_tokens.proofs.kind.kind_of.Goals as goal

pub returns-in-None : goal.returns-in-None
returns-in-None c =
    c.kind_by_first_byte.ensures ∙ sym (kind_of-not_fixed c.args.text.now c.in-None.ensures.other)
