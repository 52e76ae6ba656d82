use Rattle.std.proofs.Common.{Some, string_bytes}
use Rattle.std.proofs.lemmas.Map.Text.{btree_map_updates_text}
use Rattle.cedar_server.proofs.Maps.{IsUpdated, other_state, own_state}
use Rattle.cedar_server.proofs.documents.put.Goals as goal

pub returns-clause-ok : goal.returns-clause-ok
returns-clause-ok c =
    let uri = string_bytes c.args.uri in
    let old = c.args.documents.now in
    let new = c.insert.new.self in
    let updated : IsUpdated uri (Some c.args.document) old new =
    btree_map_updates_text uri old new _ c.in_ok-insert.ensures.updates in
    record {
      own = own_state uri (Some c.args.document) old new updated;
      others = other_state uri (Some c.args.document) old new updated;
    }
