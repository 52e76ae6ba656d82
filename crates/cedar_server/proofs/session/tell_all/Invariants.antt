use Rattle.std.proofs.Common.{map}
use Rattle.cedar_server.specs.Talks.{Grows, told}
use Rattle.cedar_server.proofs.session.tell_all.Given as goal

abbrev pub invariant-loop-message : goal.invariant-loop-message
invariant-loop-message g l =
    Grows (map told l.yielded) (g.C.Client.talk l.fn.client) (g.C.Client.talk l.client)
