use Rattle.std.proofs.Common.{ap, subst, ◌∙◌}
use Rattle.std.specs.Prelude.{◌↔◌, IsTrue, string_bytes}
use Rattle.std.specs.List.{list_any}
use Rattle.std.specs.Str.{bytes_eq}
use Rattle.cedar_examples.specs.Keys.{HasKeyOf}
use Rattle.cedar_examples.proofs.Keys.{found_tells}
use Rattle.cedar_examples.proofs.policy_store.Store.contains.Goals as goal

pub returns-clause-held : goal.returns-clause-held
returns-clause-held c =
    let keys = c.self.inside.keys.keys in
    subst (λ z. IsTrue c.contains.result ↔ HasKeyOf z c.args.text.now) c.self.view_is
    (found_tells c.keys_tell_lists.ensures keys c.args.text.now
    (string_bytes c.in_ok-key.key) c.contains.result c.utf8.text c.in_ok-key.ensures.key
    (c.contains.ensures
    ∙ ap (λ z. list_any (λ s. bytes_eq z (string_bytes s)) keys) c.as_str.ensures.value))
