use Rattle.std.proofs.Common.{sym, ◌∙◌}
use Rattle.cedar_documents.proofs.Places.{count_is}
use Rattle.cedar_documents.proofs.take.count_between.Goals as goal

pub returns : goal.returns
returns c =
    c.saturating_sub.ensures ∙ rw (c.count_until.ensures, c.count_before-before.ensures)
    (sym (count_is c.args.start c.args.end 0 c.args.tokens.now c.requires))
