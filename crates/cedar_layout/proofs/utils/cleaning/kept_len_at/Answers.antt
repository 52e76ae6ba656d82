use Rattle.std.proofs.Common.{drop}
use Rattle.cedar_layout.proofs.Seeking.{kept_comment}
use Rattle.cedar_layout.proofs.utils.cleaning.kept_len_at.Goals as goal

pub returns-in-None-clause-len : goal.returns-in-None-clause-len
returns-in-None-clause-len c = kept_comment (drop c.args.at c.args.text.now) c.comment_len_at.result
    c.in-None.ensures.len c.comment_len_at.ensures.len
