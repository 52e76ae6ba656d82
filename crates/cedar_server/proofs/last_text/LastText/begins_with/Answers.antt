use Rattle.std.proofs.Common.{◌≡◌, ◌<◌, length, ap, sym, subst, ◌∙◌, arith}
use Rattle.std.specs.Prelude.{string_bytes, slice_range}
use Rattle.cedar_server.specs.Inside.Standing.{Stands, StandsAt}
use Rattle.cedar_server.proofs.Standing.{strips}
use Rattle.cedar_server.proofs.last_text.LastText.begins_with.Goals as goal

pub returns : goal.returns
returns c =
    let text = string_bytes c.self.inside.text in
    let items = c.self.inside.standing.items in
    let span = c.index.result.now in
    let policy = c.in_ok-policy.policy.now in
    let within : c.in-Ok.index < length items = omega (arith, c.in-Ok.ensures.bound, ap length c.deref.ensures.value) in
    let held : StandsAt text span = subst (StandsAt text) (sym c.index.ensures) (c.self.invariant c.in-Ok.index span within) in
    let bytes : policy ≡ slice_range text span.start span.end =
    c.in_ok-policy.ensures.cases.0 ∙ ap (λ t. slice_range t span.start span.end) c.deref-2.ensures in
    strips policy c.args.rest.now c.in_ok-strip_prefix.field-0.now c.in_ok-strip_prefix.ensures.cases (subst Stands (sym bytes) held)
