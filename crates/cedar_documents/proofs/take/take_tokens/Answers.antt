use Rattle.std.proofs.Common.{refl, ◌∙◌, map, subst}
use Rattle.std.proofs.lemmas.List.{drop_all}
use Rattle.cedar_layout.specs.Lookups.{comment_parts, shown}
use Rattle.cedar_documents.specs.Items.{items_of}
use Rattle.cedar_documents.specs.Taking.{own}
use Rattle.cedar_documents.proofs.Kept.{all_kept, kept_on}
use Rattle.cedar_documents.proofs.Reached.{Reached, all_taken, all_texts, same_texts, text_more, at_needed, at_place, at_signs, next_item, nothing_taken, one_more, one_taken, with_next}
use Rattle.cedar_documents.proofs.take.take_tokens.Goals as goal
use Rattle.cedar_documents.proofs.take.take_tokens.Goals.{in-Token+in_ok-push-in-Token, in-Signs, in-At, in-Needed}

pub loop-item-init : goal.loop-item-init
loop-item-init c = record {
  order = c.requires;
  texts = rw c.new-taken.ensures.items refl;
  kept = all_kept c.args.tokens.now;
  taken = λ b ts a e k f. rw c.new-taken.ensures.items (nothing_taken b ts a _ _ e k f);
}

pub returns-in_err-push-in-Token-clause-kept : goal.returns-in_err-push-in-Token-clause-kept
returns-in_err-push-in-Token-clause-kept c =
    kept_on c.args.tokens.now c.loop-item.tokens c.next_comment-comment.new.tokens
    c.next_comment-comment.ensures.kept c.loop-item.invariant.kept

pub loop-item-preserved : goal.loop-item-preserved
loop-item-preserved c = elim c.match-item.branch [
  | in-Token+in_ok-push-in-Token w ↦
      let n = w.next_comment-comment in
      let is = next_item c.args.items.now c.loop-item.item-index _ _ c.loop-item-test.true w.in-Token.is in
      let texts = one_more _ _ _ w.in_ok-push-in-Token.ensures.items in
      rw (w.tokens-is, w.taken-is, w.place-is) record {
        order = n.ensures.order;
        texts = text_more _ _ _ _ w.in_ok-push-in-Token.ensures.items
            ∙ same_texts _ _ _ _ is c.loop-item.invariant.texts;
        kept = kept_on c.args.tokens.now c.loop-item.tokens n.new.tokens n.ensures.kept c.loop-item.invariant.kept;
        taken = λ b ts a e k f. rw texts (one_taken b ts a _ _ _ _ _ _ _ (comment_parts n.result)
            (with_next is (c.loop-item.invariant.taken b ts a e k f))
            n.ensures.taken);
      }
  | in-Signs w ↦
      let is = next_item c.args.items.now c.loop-item.item-index _ _ c.loop-item-test.true w.in-Signs.is in
      rw (w.tokens-is, w.taken-is, w.place-is) record {
        order = c.loop-item.invariant.order;
        texts = same_texts _ _ _ _ is c.loop-item.invariant.texts;
        kept = c.loop-item.invariant.kept;
        taken = λ b ts a e k f. at_signs b ts a _ _ _ _ _ _ _
            (with_next is (c.loop-item.invariant.taken b ts a e k f));
      }
  | in-At w ↦
      let is = next_item c.args.items.now c.loop-item.item-index _ _ c.loop-item-test.true w.in-At.is in
      rw (w.tokens-is, w.taken-is, w.place-is) record {
        order = c.loop-item.invariant.order;
        texts = same_texts _ _ _ _ is c.loop-item.invariant.texts;
        kept = c.loop-item.invariant.kept;
        taken = λ b ts a e k f. at_place b ts a _ _ _ _ _ c.loop-item.invariant.order _
            (with_next is (c.loop-item.invariant.taken b ts a e k f))
            w.place_of-place.ensures;
      }
  | in-Needed w ↦
      let is = next_item c.args.items.now c.loop-item.item-index _ _ c.loop-item-test.true w.in-Needed.is in
      rw (w.tokens-is, w.taken-is, w.place-is) record {
        order = c.loop-item.invariant.order;
        texts = same_texts _ _ _ _ is c.loop-item.invariant.texts;
        kept = c.loop-item.invariant.kept;
        taken = λ b ts a e k f. at_needed b ts a _ _ _ _ _ c.loop-item.invariant.order _
            (with_next is (c.loop-item.invariant.taken b ts a e k f))
            w.place_of-place-in-Needed.ensures;
      }
]

pub returns-clause-texts : goal.returns-clause-texts
returns-clause-texts c = all_texts _ _ c.args.items.now c.loop-item.item-index
    c.loop-item-test.false c.loop-item.invariant.texts

pub returns-clause-taken : goal.returns-clause-taken
returns-clause-taken c = λ b ts a e k f.
    let l = c.loop-item in
    all_taken b ts a l.place (map own l.taken.items) (map shown l.tokens)
    (subst (λ z. Reached b ts a (items_of z) l.place (map own l.taken.items) (map shown l.tokens))
    (drop_all l.item-index c.args.items.now c.loop-item-test.false)
    (l.invariant.taken b ts a e k f))
