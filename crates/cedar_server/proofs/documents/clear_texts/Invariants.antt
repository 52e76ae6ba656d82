use Rattle.std.proofs.Common.{map}
use Rattle.std.specs.Map.Iter.{deref_pair}
use Rattle.cedar_server.specs.Sessions.{AreCleared, names_of_texts}
use Rattle.cedar_server.proofs.documents.clear_texts.Given as goal

abbrev pub invariant-loop-uri : goal.invariant-loop-uri
invariant-loop-uri l = AreCleared (names_of_texts (map deref_pair l.yielded)) l.told.items
