use Rattle.std.proofs.Common.{◌≡◌, false, ◌&&◌, sym, ap, ◌∙◌, arith}
use Rattle.std.proofs.Math.Bool.{and-false}
use Rattle.cedar_tokens.specs.Kinds.{is_closing}
use Rattle.cedar_tokens.specs.TokenKinds.{kind_of}
use Rattle.cedar_reading.proofs.PlainAlready.{plain_already, trails_all, trails_step, trails_end}
use Rattle.cedar_reading.proofs.listing.has_trailing_comma.Goals as goal
use Rattle.cedar_reading.proofs.listing.has_trailing_comma.Goals.{else-after_comma-via-then-after_comma+else-is_closing, else-after_comma-via-else-after_comma}

pub loop-token-init : goal.loop-token-init
loop-token-init c = trails_all c.args.tokens.now

pub loop-token-preserved : goal.loop-token-preserved
loop-token-preserved c =
    let after = c.loop-token.after_comma in
    let kind = c.kind-kind.ensures in
    let text = c.token-item.result.text in
    let none : (after && is_closing (kind_of text)) ≡ false =
    elim c.else-after_comma.branch [
      | else-after_comma-via-then-after_comma+else-is_closing w ↦
          ap (λ z. after && is_closing z) (sym kind)
          ∙ ap (λ z. after && z) (sym w.is_closing.ensures ∙ w.if-is_closing.false)
          ∙ and-false after
      | else-after_comma-via-else-after_comma w ↦
          ap (λ z. z && is_closing (kind_of text)) w.if-after_comma.false
    ] in
    rw (c.is_comma-after_comma.ensures, kind) (sym (trails_step after c.args.tokens.now c.loop-token.token-index
    c.token-item.result c.loop-token-test.true c.token-item.is none) ∙ c.loop-token.invariant)

pub returns-clause-plain : goal.returns-clause-plain
returns-clause-plain c = plain_already c.args.tokens.now
    (trails_end _ c.args.tokens.now c.loop-token.token-index (omega arith) c.loop-token.invariant)
