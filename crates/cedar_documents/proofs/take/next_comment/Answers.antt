use Rattle.std.proofs.Common.{◌≡◌, get_or, ap, ◌∙◌, arith}
use Rattle.cedar_layout.specs.Lookups.{Shown, emptied, shown}
use Rattle.cedar_layout.proofs.HandedOut.{order_of_set, same_parts, shows_emptied}
use Rattle.cedar_documents.proofs.Kept.{all_kept, kept_set, seam_get, seam_set}
use Rattle.cedar_documents.proofs.take.next_comment.Goals as goal

pub returns-then-place-tokens-clause-kept : goal.returns-then-place-tokens-clause-kept
returns-then-place-tokens-clause-kept c = all_kept c.args.tokens.now

pub returns-clause-order : goal.returns-clause-order
returns-clause-order c =
    order_of_set c.args.tokens.now c.args.place.now c.index-tokens-place.result
    c.consume_comment-comment.new.self
    (omega (arith, c.if-place-tokens.false)) c.consume_comment-comment.ensures.rest.1 c.requires

pub returns-clause-kept : goal.returns-clause-kept
returns-clause-kept c =
    let e = c.consume_comment-comment.ensures in
    let d = c.index-tokens-place.result in
    kept_set c.args.tokens.now c.args.place.now d c.consume_comment-comment.new.self
    (omega (arith, c.if-place-tokens.false))
    (shows_emptied c.consume_comment-comment.new.self
    (get_or c.args.tokens.now c.args.place.now d) e.emptied.0 e.emptied.1 e.rest.0 e.rest.1)

pub returns-clause-taken : goal.returns-clause-taken
returns-clause-taken c = λ b t a e p.
    let h = c.consume_comment-comment.ensures in
    let x = c.consume_comment-comment.new.self in
    let ts = c.args.tokens.now in
    let d = c.index-tokens-place.result in
    let old = get_or ts c.args.place.now d in
    let r = seam_get b t a ts c.args.place.now d e p in
    let y : shown x ≡ emptied t =
    shows_emptied x old h.emptied.0 h.emptied.1 h.rest.0 h.rest.1 ∙ ap emptied r.1 in (
      same_parts c.consume_comment-comment.result old.comment h.lines h.trailing
          ∙ ap (λ (s : Shown). s.comment) r.1,
      omega (arith, p),
      seam_set b t a ts c.args.place.now x (emptied t) e p y,
    )
