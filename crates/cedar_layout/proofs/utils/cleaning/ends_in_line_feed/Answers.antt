use Rattle.std.proofs.Common.{◌==◌, ap, sym}
use Rattle.cedar_layout.proofs.Seeking.{last_of}
use Rattle.cedar_layout.proofs.utils.cleaning.ends_in_line_feed.Goals as goal
use Rattle.cedar_tokens.specs.Bytes.{line_feed, space_character}

pub returns-in-Some : goal.returns-in-Some
returns-in-Some c =
    ap (λ n. n == line_feed) (sym (last_of c.args.line.now space_character c.in-Some.byte.now
    c.in-Some.ensures.value))
