use Rattle.std.proofs.Common.{length, take, string_bytes, ap, ◌∙◌}
use Rattle.cedar_layout.proofs.utils.cleaning.push_piece.Goals as goal

pub returns-in_err-push_str-2-clause-kept : goal.returns-in_err-push_str-2-clause-kept
returns-in_err-push_str-2-clause-kept c =
    ap (take (length (string_bytes c.args.out.now))) c.in_err-push_str-2.ensures.bytes
    ∙ c.loop-rest.invariant.kept
