use Rattle.std.proofs.Common.{drop, get_or, arith, ap, ◌∙◌, add-zero}
use Rattle.std.proofs.lemmas.List.{length-drop, get_or-drop}
use Rattle.cedar_layout.proofs.Seeking.{unit_string}
use Rattle.cedar_layout.proofs.utils.cleaning.string_len_at.Goals as goal

pub returns-clause-len : goal.returns-clause-len
returns-clause-len c =
    unit_string (drop c.args.at c.args.text.now) c.in_ok-len.len c.in_ok-len.ensures.nonempty
    (omega (arith, c.requires, length-drop c.args.at c.args.text.now))
    (get_or-drop c.args.at c.args.text.now 0 0 ∙ ap (λ n. get_or c.args.text.now n 0)
    (add-zero c.args.at) ∙ (rw c.as_bytes.ensures.value at c.if-as_bytes-at-ne34.false))
    (rw c.range_from.ensures.value at c.in_ok-len.ensures.unit)
