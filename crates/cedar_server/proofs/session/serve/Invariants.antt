use Rattle.std.proofs.Common.{List}
use Rattle.cedar_server.specs.Talks.{AreTurns, Grows, IsNew, Turn, events_of}
use Rattle.cedar_server.specs.declared.server.Server.{Server}
use Rattle.cedar_server.proofs.session.serve.Given as goal

abbrev pub invariant-turns : goal.invariant-turns
invariant-turns g l = (start : Server) × (turns : List Turn) × IsNew start × AreTurns turns start l.server
    × Grows (events_of turns) (g.C.Client.talk l.fn.client) (g.C.Client.talk l.client)
