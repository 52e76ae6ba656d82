use Rattle.std.proofs.Common.{drop, sym, ◌∙◌}
use Rattle.cedar_layout.proofs.Seeking.{no_comment}
use Rattle.cedar_layout.proofs.utils.cleaning.comment_len_at.Goals as goal

pub returns-else-eq-clause-len : goal.returns-else-eq-clause-len
returns-else-eq-clause-len c =
    no_comment (drop c.args.at c.args.text.now) c.in_ok-kind.len c.in_ok-kind.kind
    (rw c.range_from.ensures.value at c.in_ok-kind.ensures.unit)
    (rw c.range_from.ensures.value at c.in_ok-kind.ensures.kind)
    (λ e. let h = rw e at (sym c.eq.ensures ∙ c.if-eq.false) in cc)
