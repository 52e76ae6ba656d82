use Rattle.std.proofs.Common.{◌≡◌, ℕ, List, map}
use Rattle.std.specs.Map.Iter.{deref_pair}
use Rattle.cedar_server.specs.Sessions.{state_in}
use Rattle.cedar_server.proofs.Losing.{lost_among}
use Rattle.cedar_server.proofs.documents.all_lost.Given as goal

abbrev pub invariant-loop-uri : goal.invariant-loop-uri
invariant-loop-uri l = (q : List ℕ) → state_in l.lost q ≡ lost_among q (map deref_pair l.yielded)
