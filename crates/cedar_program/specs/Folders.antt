-- What a folder holds, and what each call does to it.
use Rattle.std.specs.Prelude.{◌≡◌, ◌≢◌, ◌⊎◌, ◌++◌, ◌∷◌, [], ℕ, List, Bool, false, Option, None, Some, IfErr, IfOk, OnOk, OnErr, Result, ⊤, string_bytes, String}
use Rattle.std.specs.List.{AllByRecursion}
use Rattle.std.specs.declared.io.Error.{Error}
use Rattle.std.specs.declared.alloc.Global.{Global}
use Rattle.cedar_program.specs.declared.folder.folder.Access.{Access}
use Rattle.cedar_program.specs.declared.folder.folder.File.{File}
use Rattle.cedar_program.specs.declared.folder.folder.NotCreated.{NotCreated}
use Rattle.cedar_program.specs.declared.folder.folder.Outcome.{Outcome}
use Rattle.cedar_program.specs.declared.folder.folder.Version.{Version}
use Rattle.cedar_program.specs.Rights.{Given}

-- a file: its bytes, its access, and which state of which file it is
pub record Stored : Type 0 where
  pub bytes : List ℕ
  pub access : Access
  pub version : Version

abbrev pub stored : File → Stored
stored f = record { bytes = f.bytes.items; access = f.access; version = f.version }

-- a name holds a file with these bytes, made with this access
abbrev pub HoldsMade : List ℕ → Access → Option Stored → Type 0
HoldsMade bytes access h = (g : Stored) × (h ≡ Some g) × (g.bytes ≡ bytes) × Given access g.access

-- what each name holds at a moment
abbrev pub Names : Type 0
Names = List ℕ → Option Stored

-- a report: on which file, what became of it, and whether the run is to go on
pub record Told : Type 0 where
  pub name : List ℕ
  pub outcome : Outcome
  pub goes_on : Bool

-- a moment: what each name holds, and what was reported so far
pub record Moment : Type 0 where
  pub holds : Names
  pub report : List Told

-- what each name holds, what was reported, and every moment so far
pub record Picture : Type 0 where
  pub holds : Names
  pub report : List Told
  pub moments : List Moment

-- if something was known before, it is known after, and the step leads from the one to the other
abbrev pub Follows : (Picture → Picture → Type 0) → Option Picture → Option Picture → Type 0
Follows step None new = ⊤
Follows step (Some p) None = ⊥
Follows step (Some p) (Some q) = step p q

-- every moment since has P
abbrev pub Since : Picture → Picture → (Moment → Type 0) → Type 0
Since p q P = (more : List Moment) × (q.moments ≡ p.moments ++ more) × AllByRecursion P more

-- nothing more was reported at a moment, and the names have P
abbrev pub Untold : Picture → (Names → Type 0) → Moment → Type 0
Untold p P m = (m.report ≡ p.report) × P m.holds

-- every other name holds the same
abbrev pub Spares : List ℕ → Names → Names → Type 0
Spares name s t = (n : List ℕ) → n ≢ name → t n ≡ s n

-- every name holds the same
abbrev pub Alike : Names → Names → Type 0
Alike s t = (n : List ℕ) → t n ≡ s n

abbrev pub Reads : List ℕ → Result File Error → Picture → Picture → Type 0
Reads name result p q = (q ≡ p) × IfOk result (λ f. p.holds name ≡ Some (stored f))

abbrev pub FindsUnused : Result (String Global) Error → Picture → Picture → Type 0
FindsUnused result p q = (q ≡ p) × IfOk result (λ n. p.holds (string_bytes n) ≡ None)

-- the file is there; or nothing changed, unless a part is left; at every moment every other name holds what it held
pub record Creates (name bytes : List ℕ) (access : Access) (result : Result Unit NotCreated) (p q : Picture) : Type 0 where
  pub ok : OnOk result (HoldsMade bytes access (q.holds name))
  pub err : IfErr result (λ e. e.is_left ≡ false → Alike p.holds q.holds)
  pub others : Spares name p.holds q.holds
  pub moments : Since p q (Untold p (Spares name p.holds))
  pub report : q.report ≡ p.report

-- the file has the other name, which held this version; or nothing changed; at every moment one or the other
pub record PutsInPlace (from to : List ℕ) (version : Version) (result : Result Unit Error) (p q : Picture) : Type 0 where
  pub ok : from ≢ to → OnOk result ((q.holds to ≡ p.holds from) × (q.holds from ≡ None))
  pub was : (f : Stored) → p.holds to ≡ Some f → OnOk result (f.version ≡ version)
  pub err : OnErr result (Alike p.holds q.holds)
  pub others : (n : List ℕ) → n ≢ from → n ≢ to → q.holds n ≡ p.holds n
  pub moments : Since p q (Untold p (λ s. Alike p.holds s ⊎ Alike q.holds s))
  pub report : q.report ≡ p.report

-- the name holds nothing, or nothing changed; at every moment every other name holds what it held
pub record Removes (name : List ℕ) (result : Result Unit Error) (p q : Picture) : Type 0 where
  pub ok : OnOk result (q.holds name ≡ None)
  pub err : OnErr result (Alike p.holds q.holds)
  pub others : Spares name p.holds q.holds
  pub moments : Since p q (Untold p (Spares name p.holds))
  pub report : q.report ≡ p.report

-- the picture after one more report
abbrev pub with_report : Picture → Told → Picture
with_report p t = let more = p.report ++ (t ∷ []) in record {
  holds = p.holds;
  report = more;
  moments = p.moments ++ (record { holds = p.holds; report = more } ∷ []);
}

-- the report is longer by this file, and the answer says whether to continue; or it couldn't be made, and the answer is to stop
abbrev pub Reports : List ℕ → Outcome → Bool → Picture → Picture → Type 0
Reports name outcome goes_on p q = (q ≡ with_report p (record { name = name; outcome = outcome; goes_on = goes_on })) ⊎ ((goes_on ≡ false) × (q ≡ p))
