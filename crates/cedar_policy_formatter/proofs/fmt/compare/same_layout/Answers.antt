use Rattle.std.proofs.Common.{◌≡◌, ◌&&◌, drop, inr, ap, sym, subst, ◌∙◌}
use Rattle.std.specs.Prelude.{◌↔◌, IsTrue}
use Rattle.std.proofs.lemmas.Result.{err_from_is_err_and}
use Rattle.cedar_tokens.specs.Listing.{comments}
use Rattle.cedar_grammar.specs.Texts.{Accepted}
use Rattle.cedar_grammar.specs.Refusals.{Refuses}
use Rattle.cedar_grammar.proofs.Memory.{memory_map}
use Rattle.cedar_cst.specs.PolicyReaders.{Position}
use Rattle.cedar_cst.proofs.Readers.{goes_further, read_nothing}
use Rattle.cedar_policy_formatter.specs.Refused.{RefusesOne}
use Rattle.cedar_policy_formatter.proofs.EqualLists.{agree_begins, compared, more_differs, next_compared, still_compared}
use Rattle.cedar_policy_formatter.proofs.fmt.compare.same_layout.Goals.{then-same-2, else-same-2}
use Rattle.cedar_policy_formatter.proofs.fmt.compare.same_layout.Goals as goal

pub pieces-init : goal.pieces-init
pieces-init c = record {
  first_text = c.new-first.ensures.of_text;
  second_text = c.new-second.ensures.of_text;
  compared = agree_begins _ _ _ _ (read_nothing _ _ c.new-first.ensures)
      (read_nothing _ _ c.new-second.ensures);
}

pub pieces-smaller : goal.pieces-smaller
pieces-smaller c = goes_further _ _ _ (rw c.in-Some.is at c.in_ok-text.ensures.answer)

pub pieces-preserved-then-same : goal.pieces-preserved-then-same
pieces-preserved-then-same c =
    let so_far = c.pieces.invariant in
    let goes_on = rw c.in-Some.is at c.in_ok-text.ensures.answer in
    record {
      first_text = goes_on.of_text ∙ so_far.first_text;
      second_text = c.goes_on_alike.ensures.text ∙ so_far.second_text;
      compared = next_compared c.accepted_is_not_refused.ensures c.pieces.first
          c.next_text.new.self c.pieces.second c.goes_on_alike.new.reader c.in-Some.text.now
          c.in_ok-same.same (rw c.if-same.true at so_far.compared) goes_on
          (rw c.in-Some.is at c.in_ok-text.ensures.accepted) c.goes_on_alike.ensures.text
          c.in_ok-same.ensures.next;
    }

pub pieces-preserved : goal.pieces-preserved
pieces-preserved c =
    let so_far = c.pieces.invariant in
    let goes_on = rw c.in-Some.is at c.in_ok-text.ensures.answer in
    record {
      first_text = goes_on.of_text ∙ so_far.first_text;
      second_text = so_far.second_text;
      compared = still_compared c.pieces.first c.next_text.new.self c.pieces.second
          c.in-Some.text.now c.pieces.same c.if-same.false goes_on so_far.compared;
    }

pub returns-in_err-more-clause-answer : goal.returns-in_err-more-clause-answer
returns-in_err-more-clause-answer c =
    let so_far = c.pieces.invariant in
    let ended = rw c.in_default.is at c.in_ok-text.ensures.answer in
    let p =
    err_from_is_err_and c.from_residual-in_err-more.result c.from_residual-in_err-more.ensures.1 in
    rw (p.1, p.2) (memory_map (Refuses c.pieces.second.text) (RefusesOne c.args.a.now c.args.b.now)
    (λ e h. inr (
      (c.written_texts_agree.ensures.accepted c.args.a.now).0
          (subst Accepted so_far.first_text ended.accepted),
      (c.written_texts_agree.ensures.refused c.args.b.now e).0
          (subst (λ z. Refuses z e) so_far.second_text h),
    ))
    c.in_err-more.field-0.0 c.in_err-more.ensures.answer)

pub returns-then-more-clause-answer : goal.returns-then-more-clause-answer
returns-then-more-clause-answer c =
    let so_far = c.pieces.invariant in
    let ended = rw c.in_default.is at c.in_ok-text.ensures.answer in (
      (c.written_texts_agree.ensures.accepted c.args.a.now).0
          (subst Accepted so_far.first_text ended.accepted),
      (c.written_texts_agree.ensures.accepted c.args.b.now).0
          (subst Accepted so_far.second_text c.in_ok-more.ensures.answer),
    )

pub returns-then-more-clause-lists : goal.returns-then-more-clause-lists
returns-then-more-clause-lists c =
    let so_far = c.pieces.invariant in
    let ended = rw c.in_default.is at c.in_ok-text.ensures.answer in
    let found = rw c.if-more.true at c.in_ok-more.ensures.more in (
      λ f. absurd cc,
      λ h. absurd (more_differs c.pieces.first c.pieces.second c.pieces.same so_far.compared ended
          c.in_ok-more.ensures.answer found
          (rw (so_far.first_text, so_far.second_text) h)),
    )

pub returns-clause-answer : goal.returns-clause-answer
returns-clause-answer c =
    let so_far = c.pieces.invariant in
    let ended = rw c.in_default.is at c.in_ok-text.ensures.answer in (
      (c.written_texts_agree.ensures.accepted c.args.a.now).0
          (subst Accepted so_far.first_text ended.accepted),
      (c.written_texts_agree.ensures.accepted c.args.b.now).0
          (subst Accepted so_far.second_text c.in_ok-more.ensures.answer),
    )

pub returns-clause-lists : goal.returns-clause-lists
returns-clause-lists c =
    let so_far = c.pieces.invariant in
    let r = c.pieces.first in
    let s = c.pieces.second in
    let ended = rw c.in_default.is at c.in_ok-text.ensures.answer in
    let unmoved = rw c.in_default.is at c.in_ok-text.ensures.accepted in
    let found = rw c.if-more.false at c.in_ok-more.ensures.more in
    let left : c.rest.result.now ≡ drop r.at r.text =
    c.rest.ensures ∙ ap (λ (z : Position). drop z.at z.text) unmoved in
    let right : c.rest-2.result.now ≡ drop s.at s.text =
    c.rest-2.ensures ∙ ap (λ (z : Position). drop z.at z.text) found.1 in
    let closed : IsTrue c.same_comments-closed.result
    ↔ (comments (drop r.at r.text) ≡ comments (drop s.at s.text)) =
    rw (sym left, sym right) c.same_comments-closed.ensures in
    let all : c.if-same-2.result ≡ (c.pieces.same && c.same_comments-closed.result) =
    elim c.if-same-2.branch [
      | then-same-2 w ↦ rw w.if-same-2.true w.result-is
      | else-same-2 w ↦ rw w.if-same-2.false (w.result-is ∙ w.if-same-2.false)
    ] in
    rw (all, sym so_far.first_text, sym so_far.second_text)
    (compared r s c.pieces.same c.same_comments-closed.result so_far.compared ended found.0 closed)
