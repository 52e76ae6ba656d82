use Rattle.std.specs.Prelude.{vec_len, vec_capacity}
use Rattle.std.specs.Vec.Iter.{into_iter_items, into_iter_len}
use Rattle.cedar_tokens.specs.Inside.MovedLines.{lines_left}
use Rattle.cedar_tokens.proofs.PlainSteps.{Reached}
use Rattle.cedar_tokens.proofs.commas.without_trailing_commas.Given as goal

abbrev pub invariant-tokens : goal.invariant-tokens
invariant-tokens l = Reached l.fn.all.items l.kept.items l.before l.comma (into_iter_items l.rest)
    (lines_left l.moved) (vec_len l.kept) (vec_capacity l.kept)

abbrev pub decreases-tokens : goal.decreases-tokens
decreases-tokens l = into_iter_len l.rest
