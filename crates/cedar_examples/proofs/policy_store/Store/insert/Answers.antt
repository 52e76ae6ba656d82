use Rattle.std.proofs.Common.{map, subst, true}
use Rattle.std.specs.Prelude.{string_bytes}
use Rattle.std.proofs.lemmas.Map.Text.{hash_set_updates_text}
use Rattle.cedar_examples.specs.Keys.{Gains}
use Rattle.cedar_examples.proofs.Keys.{put_gains}
use Rattle.cedar_examples.proofs.policy_store.Store.insert.Goals as goal

pub returns-clause-gains : goal.returns-clause-gains
returns-clause-gains c =
    let key = string_bytes c.in_ok-key.key in
    let old = c.self.inside.keys in
    let new = c.insert.new.self in
    subst (λ z. Gains z (map string_bytes new.keys) c.args.text.now) c.self.view_is
    (put_gains c.keys_tell_lists.ensures c.outputs_are_canonical.ensures.some old.keys new.keys
    c.args.text.now key c.utf8.text c.in_ok-key.ensures.key
    (hash_set_updates_text key old new true c.in_ok-insert.ensures.updates))
