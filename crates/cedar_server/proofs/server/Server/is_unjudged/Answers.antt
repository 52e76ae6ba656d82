use Rattle.std.proofs.Common.{◌≡◌, ◌<◌, get_or, length, refl, subst, sym, ◌∙◌}
use Rattle.std.specs.Prelude.{string_bytes}
use Rattle.std.proofs.lemmas.Slice.Eq.{bytes_eq-Decides}
use Rattle.cedar_server.proofs.server.Server.is_unjudged.Goals as goal

pub returns-then-eq : goal.returns-then-eq
returns-then-eq c =
    let items = c.args.self.now.unjudged.items in
    let i = c.loop-name.name-index in
    let name = c.name-item.result in
    let within : i < length items = subst (λ it. i < length it) c.deref-name-items.ensures.value c.loop-name-test.true in
    let is : name ≡ get_or items i name = subst (λ it. name ≡ get_or it i name) c.deref-name-items.ensures.value c.name-item.is in
    let same : string_bytes name ≡ c.args.uri.now = sym c.as_str.ensures.value
    ∙ (bytes_eq-Decides c.as_str.result.now c.args.uri.now).0 (sym c.if-eq.ensures) in
    (λ _. (i, name, within, sym is, same), λ _. refl)
