use Rattle.std.proofs.Common.{List, ℕ, None, string_bytes, refl, ◌∙◌, subst}
use Rattle.std.proofs.lemmas.Map.Text.{btree_map_updates_text}
use Rattle.cedar_server.proofs.Maps.{IsUpdated, other_state, own_state}
use Rattle.cedar_server.proofs.server.Server.close.Goals as goal

pub returns-clause-ok : goal.returns-clause-ok
returns-clause-ok c =
    let uri = string_bytes c.args.uri in
    let old = c.args.self.now.documents in
    let one = c.in_ok-message.ensures in
    let updated : IsUpdated uri None old c.remove.new.self =
    subst (λ (bytes : List ℕ). IsUpdated bytes None old c.remove.new.self) c.as_str-2.ensures.value
    (btree_map_updates_text c.as_str-2.result.now old c.remove.new.self _ c.remove.ensures.updates) in (
      record {
        own = own_state uri None old c.remove.new.self updated;
        others = other_state uri None old c.remove.new.self updated;
        phase = refl;
        encoding = refl;
        wishes = refl;
      },
      refl,
      (
        one.0,
        one.1,
        c.in_ok-told.ensures ∙ one.2,
        one.3 ∙ c.as_str.ensures.value,
        one.4,
      ),
    )
