use Rattle.std.proofs.Common.{◌≡◌, ◌∷◌, None, Some, sym, ◌∙◌, rules}
use Rattle.std.specs.Prelude.{vec_len, vec_capacity}
use Rattle.std.specs.Vec.Iter.{into_iter_items}
use Rattle.cedar_tokens.specs.Inside.MovedLines.{lines_left}
use Rattle.cedar_tokens.proofs.PlainSteps.{Reached, reached_dropped, reached_pass, reached_comma, reached_other}
use Rattle.cedar_tokens.proofs.commas.without_trailing_commas.Goals as goal
use Rattle.cedar_tokens.proofs.commas.without_trailing_commas.Goals.{in_default-take-via-in-Some-take+else-is_closing_bracket, in_default-take-via-in-None-1}

pub tokens-preserved-then-is_closing_bracket : goal.tokens-preserved-then-is_closing_bracket
tokens-preserved-then-is_closing_bracket c =
    let taken : c.tokens.comma ≡ Some c.in-Some-take.dropped =
    sym c.take.ensures.value ∙ c.in-Some-take.is in
    rw c.take.ensures.after (reached_dropped _ _ _ c.tokens.before _ c.in-Some-take.dropped
    c.in-Some.token _ _ _ _ _ _ _ _ (rw (taken, c.in-Some.ensures.items) at c.tokens.invariant)
    (sym c.is_closing_bracket.ensures ∙ c.if-is_closing_bracket.true)
    c.settle-last.ensures.left c.settle-last.ensures.moved c.settle-last.ensures.bare.0
    c.settle-last.ensures.bare.1 c.keep.ensures.items c.keep.ensures.len c.keep.ensures.capacity)

pub tokens-preserved-then-is_comma : goal.tokens-preserved-then-is_comma
tokens-preserved-then-is_comma c =
    let m : Reached c.args.all.items c.pass-before.new.kept.items c.pass-before.result None
    (c.in-Some.token ∷ into_iter_items c.next.new.self) (lines_left c.tokens.moved)
    (vec_len c.pass-before.new.kept) (vec_capacity c.pass-before.new.kept) =
    elim c.in_default-take-1.branch [
      | in_default-take-via-in-Some-take+else-is_closing_bracket w ↦
          reached_pass _ _ _ c.tokens.before _ _ c.in-Some.token _ _ _ _ _ _ (rw
          (sym c.take.ensures.value ∙ w.in-Some-take.is ∙ sym w.held-is, c.in-Some.ensures.items) at
          c.tokens.invariant)
          (rw w.held-is (sym w.is_closing_bracket.ensures ∙ w.if-is_closing_bracket.false))
          c.pass-before.ensures.some c.pass-before.ensures.none c.pass-before.ensures.capacity
      | in_default-take-via-in-None-1 w ↦
          let none : c.take.result ≡ None = search rules in
          reached_pass _ _ _ c.tokens.before _ _ c.in-Some.token _ _ _ _ _ _
          (rw (sym c.take.ensures.value ∙ sym w.held-is, c.in-Some.ensures.items) at
          c.tokens.invariant) (rw (w.held-is ∙ none) tt)
          c.pass-before.ensures.some c.pass-before.ensures.none c.pass-before.ensures.capacity
    ] in
    reached_comma _ _ _ c.in-Some.token _ _ _ _ m (sym c.is_comma.ensures ∙ c.if-is_comma.true)

pub tokens-preserved : goal.tokens-preserved
tokens-preserved c =
    let m : Reached c.args.all.items c.pass-before.new.kept.items c.pass-before.result None
    (c.in-Some.token ∷ into_iter_items c.next.new.self) (lines_left c.tokens.moved)
    (vec_len c.pass-before.new.kept) (vec_capacity c.pass-before.new.kept) =
    elim c.in_default-take-1.branch [
      | in_default-take-via-in-Some-take+else-is_closing_bracket w ↦
          reached_pass _ _ _ c.tokens.before _ _ c.in-Some.token _ _ _ _ _ _ (rw
          (sym c.take.ensures.value ∙ w.in-Some-take.is ∙ sym w.held-is, c.in-Some.ensures.items) at
          c.tokens.invariant)
          (rw w.held-is (sym w.is_closing_bracket.ensures ∙ w.if-is_closing_bracket.false))
          c.pass-before.ensures.some c.pass-before.ensures.none c.pass-before.ensures.capacity
      | in_default-take-via-in-None-1 w ↦
          let none : c.take.result ≡ None = search rules in
          reached_pass _ _ _ c.tokens.before _ _ c.in-Some.token _ _ _ _ _ _
          (rw (sym c.take.ensures.value ∙ sym w.held-is, c.in-Some.ensures.items) at
          c.tokens.invariant) (rw (w.held-is ∙ none) tt)
          c.pass-before.ensures.some c.pass-before.ensures.none c.pass-before.ensures.capacity
    ] in
    rw c.take.ensures.after (reached_other _ _ _ c.pass-before.result c.in-Some.token _ _ _ _ _ _ m
    (sym c.is_comma.ensures ∙ c.if-is_comma.false) c.keep-else-is_comma.ensures.items
    c.keep-else-is_comma.ensures.len c.keep-else-is_comma.ensures.capacity)
