-- What is said in a session.
use Rattle.std.specs.Prelude.{◌≡◌, ◌⊎◌, ◌++◌, ◌∷◌, [], ℕ, List, map, Option, None, Some, ⊤}
use Rattle.cedar_server.specs.declared.messages.ClientMessage.{ClientMessage}
use Rattle.cedar_server.specs.declared.messages.ServerMessage.{ServerMessage}
use Rattle.cedar_server.specs.declared.messages.Wishes.{Wishes}
use Rattle.cedar_server.specs.declared.server.Phase.TheVariants.{Starting, Ended}
use Rattle.cedar_server.specs.declared.server.Server.{Server}
use Rattle.cedar_server.specs.Sessions.{HasNoDocuments, Settles, Steps}

-- what the client said, with the layout that the project of its document asks for, or what it was sent
pub data Event : Type 0 where
  said : ClientMessage → Wishes → Event
  told : ServerMessage → Event

-- what is known of a talk grows by these events; nothing is claimed of an unknown one
abbrev pub Grows : List Event → Option (List Event) → Option (List Event) → Type 0
Grows more None new = ⊤
Grows more (Some old) new = new ≡ Some (old ++ more)

-- a message, and all that was sent after it and before the next one
pub record Turn : Type 0 where
  pub message : ClientMessage
  pub project : Wishes
  pub answers : List ServerMessage

abbrev pub events_of : List Turn → List Event
events_of [] = []
events_of (turn ∷ turns) = (said turn.message turn.project ∷ map told turn.answers) ++ events_of turns

-- what is wrong with the documents that changed is reported, or nothing happens
abbrev pub MaySettle : Server → Server → List ServerMessage → Type 0
MaySettle s t own = Settles s t own ⊎ ((t ≡ s) × (own ≡ []))

-- a turn leads from one server to another: its message is a step
pub record IsTurn (turn : Turn) (s t : Server) : Type 0 where
  pub before : List ServerMessage
  pub own : List ServerMessage
  pub after : List ServerMessage
  pub asked : Server
  pub answered : Server
  pub answers : turn.answers ≡ before ++ (own ++ after)
  pub first : MaySettle s asked before
  pub step : Steps turn.message turn.project asked answered own
  pub last : MaySettle answered t after

-- a turn leads from one server to another, and the talk grows by it
abbrev pub TakesTurn : Server → Server → Option (List Event) → Option (List Event) → Type 0
TakesTurn s t old new = (turn : Turn) × IsTurn turn s t × Grows (events_of (turn ∷ [])) old new

-- what is wrong with the documents that changed is reported, or nothing happens, and the talk grows by that
abbrev pub Settling : Server → Server → Option (List Event) → Option (List Event) → Type 0
Settling s t old new = (own : List ServerMessage) × MaySettle s t own × Grows (map told own) old new

-- the turns lead from one server to another, each in order
abbrev pub AreTurns : List Turn → Server → Server → Type 0
AreTurns [] s t = t ≡ s
AreTurns (turn ∷ turns) s t = (u : Server) × IsTurn turn s u × AreTurns turns u t

-- a server that waits for `initialize`
pub record IsNew (s : Server) : Type 0 where
  pub phase : s.phase ≡ Starting
  pub documents : HasNoDocuments s
  pub unjudged : s.unjudged.items ≡ []

-- a whole session that ends with this status: each message that the client said is a step of the server, in order, and what the
-- client was sent is what the steps say
pub record IsSession (status : ℕ) (old new : Option (List Event)) : Type 0 where
  pub turns : List Turn
  pub start : Server
  pub end : Server
  pub fresh : IsNew start
  pub are_turns : AreTurns turns start end
  pub ended : end.phase ≡ Ended status
  pub talk : Grows (events_of turns) old new
