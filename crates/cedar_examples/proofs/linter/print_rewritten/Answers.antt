use Rattle.std.proofs.Common.{rules}
use Rattle.std.specs.Prelude.{IsTrue, string_bytes}
use Rattle.cedar_examples.proofs.Comments.{printed_keeps}
use Rattle.cedar_examples.proofs.linter.print_rewritten.Goals as goal

pub returns-clause-comments : goal.returns-clause-comments
returns-clause-comments c =
    let equal : IsTrue c.in_ok-have_equal_comments.field-0 = search rules in
    printed_keeps c.outputs_are_canonical.ensures.list c.outputs_are_canonical.ensures.accepted
    c.listing_is_unique.ensures c.args.before.now c.args.after.now
    (string_bytes c.in_ok-out.out) c.utf8.after c.in_ok-out.ensures.key
    (c.in_ok-have_equal_comments.ensures.told.0 equal)
