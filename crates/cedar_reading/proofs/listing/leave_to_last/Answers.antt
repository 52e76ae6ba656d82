use Rattle.std.proofs.Common.{◌≡◌, ◌+◌, length, take, get_or, sym, ap, ◌∙◌, rules, arith, ◌++◌, ◌∷◌, [], true, ◌==◌}
use Rattle.std.proofs.lemmas.List.{get_or_default}
use Rattle.cedar_tokens.specs.Listing.{Decorated, comments}
use Rattle.cedar_reading.proofs.PlainSteps.{at_end, end_set, touching}
use Rattle.cedar_reading.proofs.listing.leave_to_last.Goals as goal

pub returns : goal.returns
returns c =
    let old = c.args.tokens.now.items in
    let at = c.in-Some.at in
    let last = c.index_mut-last.result.now in
    let e : at + 1 ≡ length old = search rules in
    let is : last ≡ get_or old at last = c.index_mut-last.ensures.value in
    let read : last ≡ c.index.result.now =
    is ∙ get_or_default old at last c.index.result.now (omega (arith, e)) ∙ sym c.index.ensures in
    let none : (length last.trailing == 0) ≡ true =
    ap (λ (z : Decorated). length z.trailing == 0) read ∙ ap (λ z. length z == 0) (sym c.trailing.ensures)
    ∙ sym c.is_empty.ensures ∙ c.if-not-is_empty.false in
    record {
      front = take at old;
      last = last;
      was = at_end old at last e ∙ ap (λ z. take at old ++ z ∷ []) (sym is);
      touching = touching last (comments c.args.leading.now) c.args.trailing.now none
          (sym c.has_comments.ensures ∙ c.if-has_comments.false);
      becomes = end_set old at c.set_trailing.new.self e
          ∙ ap (λ z. take at old ++ z ∷ []) c.set_trailing.ensures;
    }
