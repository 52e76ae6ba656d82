use Rattle.std.proofs.Common.{◌≡◌, ℕ, List, [], ◌∷◌, ◌++◌, sym, ap, subst, ◌∙◌, append-nil, append_assoc}
use Rattle.cedar_tokens.specs.Bytes.{line_feed}
use Rattle.cedar_tokens.specs.Tokens.{comments_left}
use Rattle.cedar_laws.specs.Output.{closing_text}
use Rattle.cedar_policy_formatter.proofs.fmt.put_closing.Goals as goal

pub loop-comment-init : goal.loop-comment-init
loop-comment-init g c = (
  [],
  g.met.S.Sink.takes_nothing c.args.sink.now,
  ap (λ z. closing_text (comments_left z)) c.into_iter-comment-iterator.ensures.into_iter_gives,
)

pub loop-comment-preserved : goal.loop-comment-preserved
loop-comment-preserved g c =
    let so_far = c.loop-comment.invariant in
    let line = c.in-Some.comment.now in
    let feed : List ℕ = line_feed ∷ [] in
    let rest = closing_text (comments_left c.next.new.self) in
    let both = g.met.S.Sink.takes_both in
    let steps = c.in-Some.ensures.steps in (
      (so_far.0 ++ line) ++ feed,
      both _ _ _ _ feed (both _ _ _ _ line so_far.1 c.in_ok-put.ensures) c.in_ok-put-2.ensures,
      append_assoc (so_far.0 ++ line) feed rest ∙ append_assoc so_far.0 line (feed ++ rest)
          ∙ ap (λ z. so_far.0 ++ closing_text z) (sym steps) ∙ so_far.2,
    )

pub returns : goal.returns
returns g c =
    let so_far = c.loop-comment.invariant in
    let all : so_far.0 ≡ closing_text (comments_left c.args.closing) = sym (append-nil so_far.0)
    ∙ ap (λ z. so_far.0 ++ closing_text z) (sym c.in-None.ensures.steps.0) ∙ so_far.2 in
    subst (λ z. g.S.Sink.takes c.args.sink.now z c.loop-comment.sink) all so_far.1
