use Rattle.std.proofs.Common.{◌≡◌, ◌++◌, ap, ◌∙◌}
use Rattle.cedar_tokens.specs.Listing.{IsListing, comments}
use Rattle.cedar_tokens.specs.Tokens.{comments_left, decorated}
use Rattle.std.proofs.Common.{map}
use Rattle.cedar_examples.proofs.Comments.{found_all, found_more}
use Rattle.cedar_examples.proofs.linter.comments_of.Goals as goal

pub loop-token-preserved : goal.loop-token-preserved
loop-token-preserved c =
    let found = c.loop-token.found.items in
    let led = c.leading_comment.result.now in
    let longer = c.extend_from_slice.new.self.items in
    let more : longer ≡ found ++ led =
    rw c.in_ok-extend_from_slice.was at c.extend_from_slice.ensures.items in
    let trailing = c.get_comment.ensures ∙ ap comments c.trailing_comment.ensures in
    found_more c.deref-token-items.result.now c.loop-token.token-index c.token-item.result found led
    longer c.push_comments.new.found.items c.loop-token-test.true c.token-item.is
    c.loop-token.invariant more
    c.leading_comment.ensures
    (c.in_ok-push_comments.ensures ∙ ap (λ z. map (λ s. s.now) longer ++ z) trailing)

pub returns : goal.returns
returns c =
    let listing : IsListing c.args.text.now (record {
      tokens = map decorated c.in-Some.tokens.items;
      closing = comments_left c.in-Some.closing;
    }) = rw c.in-Some.is at c.in_ok-tokens.ensures.listing in
    found_all c.args.text.now c.deref-token-items.result.now c.in-Some.tokens.items
    c.loop-token.token-index c.loop-token.found.items c.push_comments-2.new.found.items
    (comments_left c.in-Some.closing)
    listing c.deref-token-items.ensures.value c.loop-token-test.false c.loop-token.invariant
    c.in_ok-push_comments-2.ensures
