-- What a run does with the files of a folder.
use Rattle.std.specs.Prelude.{◌≡◌, ◌≢◌, ◌⊎◌, ◌++◌, ◌∷◌, [], ℕ, ◌≤◌, List, Bool, true, false, length, if◌then◌else◌, Option, None, Some, map, string_bytes, ⊤}
use Rattle.std.specs.List.{AllByRecursion, flat_map}
use Rattle.std.specs.Str.{IsUtf8}
use Rattle.cedar_policy_formatter.specs.Outputs.{HasOutput}
use Rattle.cedar_grammar.specs.Refusals.{OutOfMemoryOr}
use Rattle.cedar_written.specs.Refusals.{Refuses}
use Rattle.cedar_written.specs.Texts.{Accepted}
use Rattle.cedar_documents.specs.declared.config.Config.{Config}
use Rattle.cedar_program.specs.Folders.{HoldsMade, Moment, Names, Picture, Since, Stored, Told, Untold}
use Rattle.cedar_program.specs.Rights.{Inherits}
use Rattle.cedar_program.specs.declared.folder.folder.Access.{Access}
use Rattle.cedar_program.specs.declared.folder.folder.Outcome.{Outcome}
use Rattle.cedar_program.specs.declared.folder.folder.Outcome.TheVariants.{Formatted, Empty, Unformatted, Replaced, NotUtf8, Refused, Unwritten, LeftBeside}
use Rattle.cedar_program.specs.declared.folder.files.Task.{Task}
use Rattle.cedar_program.specs.declared.folder.files.Layout.{Layout}
use Rattle.cedar_program.specs.declared.folder.files.Layout.TheVariants as layout

-- the bytes are accepted, and are neither none nor their own output
abbrev pub IsUnformatted : Config → List ℕ → Type 0
IsUnformatted c x = (x ≢ []) × IsUtf8 x × Accepted x × ¬ (HasOutput c x x)

-- g is the output of the file f, with the access that it inherits
abbrev pub IsOutputFile : Config → Stored → Stored → Type 0
IsOutputFile c f g = HasOutput c f.bytes g.bytes × IsUtf8 g.bytes × Inherits f.access g.access

-- a name holds its output
abbrev pub HoldsOutput : Config → Stored → Option Stored → Type 0
HoldsOutput c f h = (g : Stored) × IsOutputFile c f g × (h ≡ Some g)

-- the layout of these bytes
abbrev pub GivesLayout : Config → List ℕ → Layout → Type 0
GivesLayout c x layout.Nothing = x ≡ []
GivesLayout c x layout.Own = HasOutput c x x
GivesLayout c x (layout.Other s) = IsUnformatted c x × HasOutput c x (string_bytes s) × IsUtf8 (string_bytes s)
GivesLayout c x layout.NotUtf8 = ¬ (IsUtf8 x)
GivesLayout c x (layout.Refused e) = OutOfMemoryOr (Refuses x) e

-- a file was left under this name, beside one that couldn't be replaced
abbrev pub IsLeftAs : List ℕ → Outcome → Type 0
IsLeftAs n (LeftBeside e beside) = n ≡ string_bytes beside
IsLeftAs n o = ⊥

-- what became of the file f, whose name now holds h: only a replaced file isn't the very same as before
abbrev pub Became : Bool → Config → Stored → Outcome → Option Stored → Type 0
Became only c f Formatted h = HasOutput c f.bytes f.bytes × (h ≡ Some f)
Became only c f Empty h = (f.bytes ≡ []) × (h ≡ Some f)
Became only c f (Unformatted bytes output) h = (only ≡ true) × IsUnformatted c f.bytes × (bytes.items ≡ f.bytes) × HasOutput c f.bytes (string_bytes output) × (h ≡ Some f)
Became only c f Replaced h = (only ≡ false) × IsUnformatted c f.bytes × HoldsOutput c f h
Became only c f NotUtf8 h = ¬ (IsUtf8 f.bytes) × (h ≡ Some f)
Became only c f (Refused e bytes) h = OutOfMemoryOr (Refuses f.bytes) e × (bytes.items ≡ f.bytes) × (h ≡ Some f)
Became only c f o h = h ≡ Some f

-- at a moment each file holds what it held, or this holds of its name, what it held and what it holds
abbrev pub IsMoment : (List ℕ → Stored → Option Stored → Type 0) → Names → Names → Type 0
IsMoment Holds s t = (n : List ℕ) (f : Stored) → s n ≡ Some f → (t n ≡ Some f) ⊎ Holds n f (t n)

-- it is this name, and it holds its output
abbrev pub HoldsOwnOutput : Config → List ℕ → List ℕ → Stored → Option Stored → Type 0
HoldsOwnOutput c name n f h = (n ≡ name) × HoldsOutput c f h

-- it is this name, and it holds a file with these bytes, made with this access
abbrev pub HoldsNew : List ℕ → List ℕ → Access → List ℕ → Stored → Option Stored → Type 0
HoldsNew name bytes access n f h = (n ≡ name) × HoldsMade bytes access h

-- the named file f was in the state that was read, and a file with these bytes and its access is there; or f is there as before
abbrev pub IsReplaced : List ℕ → Stored → Stored → Outcome → Option Stored → Type 0
IsReplaced bytes read f Replaced h = (f.version ≡ read.version) × HoldsMade bytes read.access h
IsReplaced bytes read f (Unwritten e) h = h ≡ Some f
IsReplaced bytes read f (LeftBeside e n) h = h ≡ Some f
IsReplaced bytes read f o h = ⊥

-- the named file is replaced in one step by one with these bytes and the access that was read, or is unchanged; every other file
-- is unchanged, at every moment; and no file is left but the one that the outcome names
pub record Replaces (name bytes : List ℕ) (read : Stored) (o : Outcome) (p q : Picture) : Type 0 where
  pub own : (f : Stored) → p.holds name ≡ Some f → IsReplaced bytes read f o (q.holds name)
  pub others : (n : List ℕ) (f : Stored) → n ≢ name → p.holds n ≡ Some f → q.holds n ≡ Some f
  pub unused : (f : Stored) → p.holds name ≡ Some f → (n : List ℕ) → p.holds n ≡ None → (q.holds n ≡ None) ⊎ IsLeftAs n o
  pub moments : (f : Stored) → p.holds name ≡ Some f → Since p q (Untold p (IsMoment (HoldsNew name bytes read.access) p.holds))
  pub report : q.report ≡ p.report

-- the named file is handled, every other is unchanged, and no file is left but the one that the outcome names; a run that only
-- checks changes nothing
pub record Handles (c : Config) (only : Bool) (name : List ℕ) (o : Outcome) (p q : Picture) : Type 0 where
  pub own : (f : Stored) → p.holds name ≡ Some f → Became only c f o (q.holds name)
  pub others : (n : List ℕ) (f : Stored) → n ≢ name → p.holds n ≡ Some f → q.holds n ≡ Some f
  pub unused : (n : List ℕ) → p.holds n ≡ None → (q.holds n ≡ None) ⊎ IsLeftAs n o
  pub moments : Since p q (Untold p (IsMoment (HoldsOwnOutput c name) p.holds))
  pub report : q.report ≡ p.report
  pub check : only ≡ true → q ≡ p

-- a task: the name of its file, and how that is laid out
abbrev pub task_of : Task → List ℕ × Config
task_of t = (string_bytes t.name, t.config)

-- a task that was done, what became of its file, whether that was reported, and whether the report asked to go on
pub record Done : Type 0 where
  pub name : List ℕ
  pub config : Config
  pub outcome : Outcome
  pub is_told : Bool
  pub goes_on : Bool

-- what the report has of it
abbrev pub told : Done → List Told
told t = if t.is_told then record { name = t.name; outcome = t.outcome; goes_on = t.goes_on } ∷ [] else []

-- these name n, or one of them left a file under the name n
abbrev pub IsNamed : List Done → List ℕ → Type 0
IsNamed [] n = ⊥
IsNamed (t ∷ ts) n = (n ≡ t.name) ⊎ IsNamed ts n

abbrev pub SomeLeft : List Done → List ℕ → Type 0
SomeLeft [] n = ⊥
SomeLeft (t ∷ ts) n = IsLeftAs n t.outcome ⊎ SomeLeft ts n

-- these name no file twice
abbrev pub NoneTwice : List Done → Type 0
NoneTwice [] = ⊤
NoneTwice (t ∷ ts) = ¬ (IsNamed ts t.name) × NoneTwice ts

-- one of these names n, which holds the output that it asks for
abbrev pub HoldsItsOutput : List Done → List ℕ → Stored → Option Stored → Type 0
HoldsItsOutput [] n f h = ⊥
HoldsItsOutput (t ∷ ts) n f h = HoldsOwnOutput t.config t.name n f h ⊎ HoldsItsOutput ts n f h

-- a moment of a run: some tasks have been reported, and each file holds what it held, or it is one of these or of the next and
-- holds its output
pub record IsMomentOf (done : List Done) (p : Picture) (m : Moment) : Type 0 where
  pub reported : List Done
  pub next : List Done
  pub later : List Done
  pub order : done ≡ reported ++ next ++ later
  pub one : length next ≤ 1
  pub report : m.report ≡ p.report ++ flat_map told reported
  pub holds : IsMoment (HoldsItsOutput (reported ++ next)) p.holds m.holds

-- tasks were done: each name holds what it held, or a named one its output, at every moment; the report has them in order, and
-- what it says of a file is true; no file is left but those that the report names; and a run that only checks changes nothing
pub record HandlesThese (only : Bool) (done : List Done) (p q : Picture) : Type 0 where
  pub report : q.report ≡ p.report ++ flat_map told done
  pub became : NoneTwice done → AllByRecursion (λ t. (f : Stored) → p.holds t.name ≡ Some f → Became only t.config f t.outcome (q.holds t.name)) done
  pub holds : IsMoment (HoldsItsOutput done) p.holds q.holds
  pub unused : (n : List ℕ) → p.holds n ≡ None → (q.holds n ≡ None) ⊎ SomeLeft done n
  pub moments : Since p q (IsMomentOf done p)
  pub check : only ≡ true → (q.holds ≡ p.holds) × Since p q (λ m. m.holds ≡ p.holds)

-- every report was made and asked to go on
abbrev pub AllGoOn : List Done → Type 0
AllGoOn done = AllByRecursion (λ t. (t.is_told ≡ true) × (t.goes_on ≡ true)) done

-- every report was made and asked to go on, and nothing is left to do; or the last one, and no other, asked to stop, or couldn't
-- be made, which asks to stop too
abbrev pub IsObeyed : List Done → List (List ℕ × Config) → Type 0
IsObeyed done rest = (AllGoOn done × (rest ≡ [])) ⊎ ((most : List Done) × (last : Done) × (done ≡ most ++ (last ∷ [])) × AllGoOn most × (last.goes_on ≡ false))

-- these tasks were done, in order: all, or up to the first whose report asked to stop
pub record HandlesAll (only : Bool) (tasks : List (List ℕ × Config)) (p q : Picture) : Type 0 where
  pub done : List Done
  pub rest : List (List ℕ × Config)
  pub order : tasks ≡ map (λ t. (t.name, t.config)) done ++ rest
  pub obeyed : IsObeyed done rest
  pub these : HandlesThese only done p q
