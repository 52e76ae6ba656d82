use Rattle.std.proofs.Common.{map, string_bytes, take}
use Rattle.cedar_server.specs.Sessions.{JudgesAll}
use Rattle.cedar_server.proofs.server.judge_all.Given as goal

abbrev pub invariant-loop-uri : goal.invariant-loop-uri
invariant-loop-uri l =
    JudgesAll l.fn.encoding l.fn.documents (map string_bytes (take l.uri-index l.fn.uris)) l.told.items
