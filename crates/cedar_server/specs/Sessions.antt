-- What the server does with each message.
use Rattle.std.specs.Prelude.{◌≡◌, ◌≢◌, ◌⊎◌, ℕ, ℤ, pos, List, [], ◌∷◌, ◌++◌, map, All, Any, Option, Some, None, MatchOption, option_map, unwrap_or, String, string_bytes, ⊤}
use Rattle.std.specs.declared.alloc.Global.{Global}
use Rattle.std.specs.BTreeMap.{BTreeMap, get_by_text}
use Rattle.std.specs.declared.vec.Vec.{Vec}
use Rattle.cedar_server.specs.declared.diagnoses.Diagnosis.{Diagnosis}
use Rattle.cedar_server.specs.Diagnoses.{AreDiagnoses}
use Rattle.cedar_edits.specs.declared.positions.Encoding.{Encoding}
use Rattle.cedar_edits.specs.declared.positions.Encoding.TheVariants.{Utf16}
use Rattle.cedar_edits.specs.declared.changes.Change.{Change}
use Rattle.cedar_edits.specs.declared.changes.Change.TheVariants.{Whole, Part}
use Rattle.cedar_edits.specs.Changes.{MakeInTurn}
use Rattle.cedar_server.specs.declared.messages.Answer.{Answer}
use Rattle.cedar_server.specs.declared.messages.Answer.TheVariants as answer
use Rattle.cedar_server.specs.declared.messages.ClientMessage.{ClientMessage}
use Rattle.cedar_server.specs.declared.messages.ClientMessage.TheVariants as client
use Rattle.cedar_server.specs.declared.messages.ClientOptions.{ClientOptions}
use Rattle.cedar_server.specs.declared.messages.Failure.TheVariants.{NotInitialized, InvalidRequest, MethodNotFound, InvalidParams, NotOpen, Lost, OutOfMemory}
use Rattle.cedar_server.specs.declared.messages.Fault.{Fault}
use Rattle.cedar_server.specs.declared.messages.Fault.TheVariants.{NoMessage}
use Rattle.cedar_server.specs.declared.messages.Id.{Id}
use Rattle.cedar_server.specs.declared.messages.Notification.{Notification}
use Rattle.cedar_server.specs.declared.messages.Notification.TheVariants as note
use Rattle.cedar_server.specs.declared.messages.Request.{Request}
use Rattle.cedar_server.specs.declared.messages.Request.TheVariants as request
use Rattle.cedar_server.specs.declared.messages.ServerMessage.{ServerMessage}
use Rattle.cedar_server.specs.declared.messages.ServerMessage.TheVariants.{Response, Rejection, Diagnostics, Notice}
use Rattle.cedar_server.specs.declared.messages.Unread.{Unread}
use Rattle.cedar_server.specs.declared.messages.Unread.TheVariants as unread
use Rattle.cedar_server.specs.declared.messages.Wishes.{Wishes}
use Rattle.cedar_server.specs.declared.documents.Document.{Document}
use Rattle.cedar_server.specs.declared.documents.Document.TheVariants as document
use Rattle.cedar_server.specs.declared.server.Phase.{Phase}
use Rattle.cedar_server.specs.declared.server.Phase.TheVariants.{Starting, Running, ShutDown, Ended}
use Rattle.cedar_server.specs.declared.server.Server.{Server}
use Rattle.cedar_server.specs.Advice.{Completes, GivesFixes}
use Rattle.cedar_server.specs.Layouts.{LaysOut, LaysOutPart}
use Rattle.cedar_server.specs.Outline.{ShowsFolds, ShowsSelections, ShowsSymbols, ShowsTokens}

-- an open document: its text with the number that the client gave it, or the text is lost
pub data State : Type 0 where
  known : Option ℤ → List ℕ → State
  lost : State

abbrev pub state_of : Document → State
state_of (document.Text version text) = known version (string_bytes text)
state_of document.Lost = lost

-- open documents, by their URIs
abbrev pub Documents : Type 0
Documents = BTreeMap (String Global) Document

-- the state of the document with this URI, if it is open
abbrev pub state_in : Documents → List ℕ → Option State
state_in documents uri = option_map state_of (get_by_text documents uri)

abbrev pub document_of : Server → List ℕ → Option State
document_of s uri = state_in s.documents uri

-- the document with this URI is put among these, and every other is as before
pub record Puts (uri : List ℕ) (document : Document) (old new : Documents) : Type 0 where
  pub own : state_in new uri ≡ Some (state_of document)
  pub others : (q : List ℕ) → q ≢ uri → state_in new q ≡ state_in old q

-- the URIs of those of these documents that have a text, in order
abbrev pub name_of_text : List ℕ → Document → List (List ℕ)
name_of_text uri (document.Text version text) = uri ∷ []
name_of_text uri document.Lost = []

abbrev pub names_of_texts : List (String Global × Document) → List (List ℕ)
names_of_texts [] = []
names_of_texts (e ∷ es) = name_of_text (string_bytes e.0) e.1 ++ names_of_texts es

-- the URIs of the documents that changed since what is wrong with them was reported
abbrev pub unjudged_of : Server → List (List ℕ)
unjudged_of s = map string_bytes s.unjudged.items

-- the document with this URI is one of them
abbrev pub IsUnjudged : Server → List ℕ → Type 0
IsUnjudged s uri = Any (λ (name : String Global). string_bytes name ≡ uri) s.unjudged.items

-- every document is as before
abbrev pub AreSame : Documents → Documents → Type 0
AreSame old new = (q : List ℕ) → state_in new q ≡ state_in old q

abbrev pub KeepsDocuments : Server → Server → Type 0
KeepsDocuments s t = AreSame s.documents t.documents

-- no document is open
abbrev pub HasNoDocuments : Server → Type 0
HasNoDocuments s = (q : List ℕ) → document_of s q ≡ None

-- nothing has changed
pub record IsSame (s t : Server) : Type 0 where
  pub documents : KeepsDocuments s t
  pub unjudged : t.unjudged.items ≡ s.unjudged.items
  pub phase : t.phase ≡ s.phase
  pub encoding : t.encoding ≡ s.encoding
  pub wishes : t.wishes ≡ s.wishes

-- the phase is this one, and nothing else has changed
pub record Becomes (p : Phase) (s t : Server) : Type 0 where
  pub documents : KeepsDocuments s t
  pub unjudged : t.unjudged.items ≡ s.unjudged.items
  pub phase : t.phase ≡ p
  pub encoding : t.encoding ≡ s.encoding
  pub wishes : t.wishes ≡ s.wishes

-- the unit of the client's characters: the first of its list, and otherwise UTF-16
abbrev pub first_or_utf16 : List Encoding → Encoding
first_or_utf16 [] = Utf16
first_or_utf16 (e ∷ es) = e

-- the server runs, counts as the client does, and keeps the layout that the client asks for
pub record Starts (o : ClientOptions) (s t : Server) : Type 0 where
  pub documents : KeepsDocuments s t
  pub unjudged : t.unjudged.items ≡ s.unjudged.items
  pub phase : t.phase ≡ Running
  pub encoding : t.encoding ≡ first_or_utf16 o.encodings.items
  pub wishes : t.wishes ≡ o.wishes

-- the width of a line: what the client asks for, else what the project does, else 80; likewise the indentation, else 2
abbrev pub width_for : Wishes → Wishes → ℕ
width_for client project = unwrap_or client.line_width (unwrap_or project.line_width 80)

abbrev pub indent_for : Wishes → Wishes → ℤ
indent_for client project = pos (unwrap_or client.indent_width (unwrap_or project.indent_width 2))

-- the document with this URI is in this state, or is not open; no other document has changed
pub record Sets (uri : List ℕ) (state : Option State) (s t : Server) : Type 0 where
  pub own : document_of t uri ≡ state
  pub others : (q : List ℕ) → q ≢ uri → document_of t q ≡ document_of s q
  pub phase : t.phase ≡ s.phase
  pub encoding : t.encoding ≡ s.encoding
  pub wishes : t.wishes ≡ s.wishes

-- one message, which says what is wrong with the text of this number of the document with this URI
abbrev pub Diagnoses : (List Diagnosis → Type 0) → Option ℤ → List ℕ → List ServerMessage → Type 0
Diagnoses Holds version uri told = (name : String Global) × (ds : Vec Diagnosis Global) × (told ≡ Diagnostics name version ds ∷ []) × (string_bytes name ≡ uri) × Holds ds.items

-- one message, which clears what was reported about the document with this URI
abbrev pub Clears : List ℕ → List ServerMessage → Type 0
Clears uri told = Diagnoses (λ ds. ds ≡ []) None uri told

-- what is wrong with this document is reported, if it has a text
abbrev pub Judges : Encoding → List ℕ → Option State → List ServerMessage → Type 0
Judges e uri (Some (known version text)) told = Diagnoses (AreDiagnoses e text) version uri told
Judges e uri o told = told ≡ []

-- that is reported after what was reported before
abbrev pub AddsJudgement : Encoding → Option State → List ℕ → List ServerMessage → List ServerMessage → Type 0
AddsJudgement e state uri old new = (own : List ServerMessage) × (new ≡ old ++ own) × Judges e uri state own

-- what is wrong with each of these documents is reported, in order
abbrev pub JudgesAll : Encoding → Documents → List (List ℕ) → List ServerMessage → Type 0
JudgesAll e documents [] told = told ≡ []
JudgesAll e documents (uri ∷ uris) told = (own rest : List ServerMessage) × (told ≡ own ++ rest) × Judges e uri (state_in documents uri) own × JudgesAll e documents uris rest

-- what is wrong with the documents that changed is reported, and no document is to be judged any more; nothing else has changed
pub record Settles (s t : Server) (told : List ServerMessage) : Type 0 where
  pub judged : JudgesAll s.encoding s.documents (unjudged_of s) told
  pub none : t.unjudged.items ≡ []
  pub documents : KeepsDocuments s t
  pub phase : t.phase ≡ s.phase
  pub encoding : t.encoding ≡ s.encoding
  pub wishes : t.wishes ≡ s.wishes

-- the document has this text, and what is wrong with it is reported
abbrev pub Opens : List ℕ → Option ℤ → List ℕ → Server → Server → List ServerMessage → Type 0
Opens uri version text s t told = Sets uri (Some (known version text)) s t × (t.unjudged.items ≡ s.unjudged.items) × Diagnoses (AreDiagnoses s.encoding text) version uri told

-- the document isn't open, and what was reported about it is cleared
abbrev pub Closes : List ℕ → Server → Server → List ServerMessage → Type 0
Closes uri s t told = Sets uri None s t × (t.unjudged.items ≡ s.unjudged.items) × Clears uri told

-- the document is among those to be judged: it was, or it comes after them
abbrev pub Adds : List ℕ → Server → Server → Type 0
Adds uri s t = (IsUnjudged s uri × (t.unjudged.items ≡ s.unjudged.items)) ⊎ (unjudged_of t ≡ unjudged_of s ++ (uri ∷ []))

-- the document has this text, which is to be judged; nothing is reported yet
abbrev pub Receives : List ℕ → Option ℤ → List ℕ → Server → Server → List ServerMessage → Type 0
Receives uri version text s t told = Sets uri (Some (known version text)) s t × Adds uri s t × (told ≡ [])

-- nothing is said, and nothing has changed
abbrev pub Passes : Server → Server → List ServerMessage → Type 0
Passes s t told = IsSame s t × (told ≡ [])

-- a change of a part of a text
abbrev pub IsPart : Change → Type 0
IsPart (Whole text) = ⊥
IsPart (Part range text) = ⊤

-- the changes give this text, whatever the old one: a change of the whole text and those after it make it
abbrev pub Give : Encoding → List Change → List ℕ → Type 0
Give e changes new = (before rest : List Change) × (text : String Global) × (changes ≡ before ++ (Whole text ∷ rest)) × MakeInTurn e rest (string_bytes text) new

-- the text that changes give to a document in this state, if they give one: they are applied to its text; a text that is lost is
-- given by a change of the whole text alone; and none is given to a document that isn't open
abbrev pub GiveText : Encoding → List Change → Option State → Option (List ℕ) → Type 0
GiveText e changes None text = text ≡ None
GiveText e changes (Some (known version old)) text = (new : List ℕ) × (text ≡ Some new) × MakeInTurn e changes old new
GiveText e changes (Some lost) text = MatchOption text (All IsPart changes) (Give e changes)

-- the document has the text that the changes give it; if they give none, nothing happens
abbrev pub Changes : List ℕ → Option ℤ → List Change → Server → Server → List ServerMessage → Type 0
Changes uri version changes s t told = (text : Option (List ℕ)) × GiveText s.encoding changes (document_of s uri) text × MatchOption text (Passes s t told) (λ new. Receives uri version new s t told)

-- the document becomes lost, what was reported about it is cleared, and the user is notified
abbrev pub BecomesLost : List ℕ → Server → Server → List ServerMessage → Type 0
BecomesLost uri s t told = Sets uri (Some lost) s t × (t.unjudged.items ≡ s.unjudged.items) × (cleared : List ServerMessage) × (name : String Global) × Clears uri cleared × (string_bytes name ≡ uri) × (told ≡ cleared ++ (Notice (Some name) ∷ []))

-- so it is, unless it is lost already: then nothing happens
abbrev pub Loses : List ℕ → Server → Server → List ServerMessage → Type 0
Loses uri s t told = ((document_of s uri ≡ Some lost) × Passes s t told) ⊎ ((document_of s uri ≢ Some lost) × BecomesLost uri s t told)

-- every open document is lost
abbrev pub AreAllLost : Documents → Documents → Type 0
AreAllLost old new = (q : List ℕ) → state_in new q ≡ option_map (λ _. lost) (state_in old q)

-- what was reported about each of these documents is cleared, in order
abbrev pub AreCleared : List (List ℕ) → List ServerMessage → Type 0
AreCleared [] told = told ≡ []
AreCleared (uri ∷ uris) told = (own rest : List ServerMessage) × (told ≡ own ++ rest) × Clears uri own × AreCleared uris rest

-- the user is notified of lost documents, if there are any
abbrev pub notice_after : List ServerMessage → List ServerMessage
notice_after [] = []
notice_after (m ∷ ms) = Notice None ∷ []

-- a message with this id is rejected, if there is a fault
abbrev pub rejection_of : Option Id → Option Fault → List ServerMessage
rejection_of id None = []
rejection_of id (Some fault) = Rejection id fault ∷ []

-- every document is lost: the message is rejected, if there is a fault; what was reported about the documents that had a text is
-- cleared, and the user is notified
pub record LosesAll (fault : Option Fault) (s t : Server) (told : List ServerMessage) : Type 0 where
  pub lost_ones : AreAllLost s.documents t.documents
  pub cleared : List ServerMessage
  pub are_cleared : AreCleared (names_of_texts s.documents.entries) cleared
  pub in_order : told ≡ rejection_of None fault ++ (cleared ++ notice_after cleared)
  pub unjudged : t.unjudged.items ≡ s.unjudged.items
  pub phase : t.phase ≡ s.phase
  pub encoding : t.encoding ≡ s.encoding
  pub wishes : t.wishes ≡ s.wishes

-- the answer about a document in this state: that about its text, if it has one
abbrev pub OfDocument : Option State → (List ℕ → Answer → Type 0) → Answer → Type 0
OfDocument None Answers a = a ≡ answer.Failure NotOpen
OfDocument (Some lost) Answers a = a ≡ answer.Failure Lost
OfDocument (Some (known version text)) Answers a = Answers text a

-- the answer to a request in each phase, where the project asks for this layout
abbrev pub Gives : Phase → Request → Wishes → Server → Answer → Type 0
Gives Starting (request.Initialize o) p s a = a ≡ answer.Ready (first_or_utf16 o.encodings.items) o.formats_on_save
Gives Starting r p s a = a ≡ answer.Failure NotInitialized
Gives Running (request.Initialize o) p s a = a ≡ answer.Failure InvalidRequest
Gives Running request.Shutdown p s a = a ≡ answer.Nothing
Gives Running (request.Formatting uri) p s a = OfDocument (document_of s (string_bytes uri)) (LaysOut s.encoding (width_for s.wishes p) (indent_for s.wishes p)) a
Gives Running (request.RangeFormatting uri range) p s a = OfDocument (document_of s (string_bytes uri)) (LaysOutPart s.encoding (width_for s.wishes p) (indent_for s.wishes p) range) a
Gives Running (request.Fixes uri range) p s a = OfDocument (document_of s (string_bytes uri)) (GivesFixes s.encoding (string_bytes uri) range) a
Gives Running (request.Completion uri position) p s a = OfDocument (document_of s (string_bytes uri)) (Completes s.encoding position) a
Gives Running (request.Tokens uri) p s a = OfDocument (document_of s (string_bytes uri)) (ShowsTokens s.encoding) a
Gives Running (request.Symbols uri) p s a = OfDocument (document_of s (string_bytes uri)) (ShowsSymbols s.encoding) a
Gives Running (request.Folds uri) p s a = OfDocument (document_of s (string_bytes uri)) (ShowsFolds s.encoding) a
Gives Running (request.Selections uri positions) p s a = OfDocument (document_of s (string_bytes uri)) (ShowsSelections s.encoding positions.items) a
Gives Running request.Malformed p s a = a ≡ answer.Failure InvalidParams
Gives Running request.Other p s a = a ≡ answer.Failure MethodNotFound
Gives ShutDown r p s a = a ≡ answer.Failure InvalidRequest
Gives (Ended n) r p s a = a ≡ answer.Failure InvalidRequest

-- what a request changes in each phase
abbrev pub Turns : Phase → Request → Server → Server → Type 0
Turns Starting (request.Initialize o) s t = Starts o s t
Turns Running request.Shutdown s t = Becomes ShutDown s t
Turns p r s t = IsSame s t

-- the program is to end with this status after `exit`, and anything else is ignored
abbrev pub TakesExit : ℕ → Notification → Server → Server → List ServerMessage → Type 0
TakesExit status note.Exit s t told = Becomes (Ended status) s t × (told ≡ [])
TakesExit status n s t told = Passes s t told

-- what a notification does in each phase
abbrev pub Takes : Phase → Notification → Server → Server → List ServerMessage → Type 0
Takes Starting n s t told = TakesExit 1 n s t told
Takes Running note.Exit s t told = TakesExit 1 note.Exit s t told
Takes Running (note.DidOpen uri version text) s t told = Opens (string_bytes uri) version (string_bytes text) s t told
Takes Running (note.DidChange uri version changes) s t told = Changes (string_bytes uri) version changes.items s t told
Takes Running (note.DidClose uri) s t told = Closes (string_bytes uri) s t told
Takes Running note.Other s t told = Passes s t told
Takes ShutDown n s t told = TakesExit 0 n s t told
Takes (Ended k) n s t told = Passes s t told

-- what a message that can't be read does in each phase: while the server runs, the documents whose text it may be about are lost
abbrev pub Misses : Phase → Unread → Server → Server → List ServerMessage → Type 0
Misses (Ended k) u s t told = Passes s t told
Misses Running (unread.TextOf uri) s t told = Loses (string_bytes uri) s t told
Misses Running (unread.AnyText fault) s t told = LosesAll fault s t told
Misses p (unread.NoText id) s t told = IsSame s t × (told ≡ rejection_of id (Some NoMessage))
Misses p (unread.TextOf uri) s t told = Passes s t told
Misses p (unread.AnyText fault) s t told = IsSame s t × (told ≡ rejection_of None fault)

-- a request is answered, or nothing changes and the answer is that memory ran out
abbrev pub Answers : Request → Wishes → Server → Server → Answer → Type 0
Answers r p s t a = (Gives s.phase r p s a × Turns s.phase r s t) ⊎ ((a ≡ answer.Failure OutOfMemory) × IsSame s t)

-- a message, and what the server says in response, where the project of its document asks for this layout
abbrev pub Steps : ClientMessage → Wishes → Server → Server → List ServerMessage → Type 0
Steps (client.Request id r) p s t told = (a : Answer) × (told ≡ Response id a ∷ []) × Answers r p s t a
Steps (client.Notification n) p s t told = Takes s.phase n s t told
Steps client.Response p s t told = Passes s t told
Steps (client.Unread u) p s t told = Misses s.phase u s t told
