use Rattle.std.proofs.Common.{◌≡◌, ◌<◌, ℕ, List, length, map, get_or, ap, sym, ◌∙◌, arith}
use Rattle.std.proofs.lemmas.List.{get_or-map, length-map}
use Rattle.cedar_tokens.specs.Listing.{Decorated}
use Rattle.cedar_tokens.specs.Tokens.{decorated}
use Rattle.cedar_tokens.specs.declared.token.WrappedToken.{WrappedToken}
use Rattle.cedar_laws.specs.Output.{with_value}
use Rattle.cedar_reading.proofs.check.same_values.Goals as goal

value_at : (ws : List WrappedToken) (at : ℕ) (w : WrappedToken) (d : Decorated) → at < length ws
    → w ≡ get_or ws at w
    → get_or (map with_value (map decorated ws)) at d ≡ with_value (decorated w)
value_at ws at w d l e =
    get_or-map with_value (map decorated ws) at d d (omega (arith, l, length-map ws decorated))
    ∙ ap with_value (get_or-map decorated ws at w d l ∙ ap decorated (sym e))

pub returns-then-not-same_token : goal.returns-then-not-same_token
returns-then-not-same_token c = (
  λ f. absurd cc,
  λ e.
      let at = c.loop-at.at in
      let x = c.index-a-at.result in
      let y = c.index-b-at.result in
      let left = value_at c.args.a.now at x (decorated x) c.loop-at-test.true c.index-a-at.is in
      let right = value_at c.args.b.now at y (decorated x)
      (omega (arith, c.loop-at-test.true, c.if-a-b.false)) c.index-b-at.is in
      c.if-not-same_token.ensures.1 (sym left ∙ (ap (λ z. get_or z at (decorated x)) e ∙ right)),
)
