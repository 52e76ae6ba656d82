-- What is known of a folder that keeps a log of all that was done with it.
use Rattle.std.specs.Prelude.{◌≡◌, ◌++◌, ◌∷◌, [], ℕ, List, Option, None, Some, MatchResult, Result, String, if◌then◌else◌, string_bytes}
use Rattle.std.specs.List.{fold}
use Rattle.std.specs.Str.{bytes_eq}
use Rattle.std.specs.declared.alloc.Global.{Global}
use Rattle.std.specs.declared.alloc.AllocError.{AllocError}
use Rattle.cedar_program.specs.Folders.{Names, Picture, Stored, stored, with_report}
use Rattle.cedar_program.specs.declared.folder.folder.Access.{Access}
use Rattle.cedar_program.specs.declared.folder.folder.File.{File}
use Rattle.cedar_folder_tests.specs.declared.memory.Entry.{Entry}
use Rattle.cedar_folder_tests.specs.declared.memory.Entry.TheVariants.{Put, Removed, Renamed, Reported}
use Rattle.cedar_folder_tests.specs.declared.memory.Saying.{Saying}
use Rattle.cedar_folder_tests.specs.declared.memory.Saying.TheVariants.{Holds, HoldsNothing, HoldsAs}

-- the names, of which n holds h
abbrev pub with_name : List ℕ → Option Stored → Names → Names
with_name n h s m = if bytes_eq n m then h else s m

-- nothing is held, and nothing was reported
abbrev pub empty : Picture
empty = record { holds = λ n. None; report = []; moments = [] }

-- the picture after one more moment, at which the names hold this
abbrev pub with_names : Picture → Names → Picture
with_names p s = record {
  holds = s;
  report = p.report;
  moments = p.moments ++ (record { holds = s; report = p.report } ∷ []);
}

-- the picture after one more entry: one more moment
abbrev pub with_entry : Picture → Entry → Picture
with_entry p (Put n file) = with_names p (with_name (string_bytes n) (Some (stored file)) p.holds)
with_entry p (Removed n) = with_names p (with_name (string_bytes n) None p.holds)
with_entry p (Renamed n m) = with_names p (with_name (string_bytes m) (p.holds (string_bytes n)) (with_name (string_bytes n) None p.holds))
with_entry p (Reported n outcome goes_on) = with_report p (record { name = string_bytes n; outcome = outcome; goes_on = goes_on })

-- the picture after all entries of a log
abbrev pub picture_of : List Entry → Picture
picture_of log = fold with_entry empty log

-- what an entry says of the name n, whatever was there before
abbrev pub Says : Entry → List ℕ → Saying → Type 0
Says e n (Holds f) = (p : Picture) → (with_entry p e).holds n ≡ Some (stored f.now)
Says e n HoldsNothing = (p : Picture) → (with_entry p e).holds n ≡ None
Says e n (HoldsAs m) = (p : Picture) → (with_entry p e).holds n ≡ p.holds m.now

-- one entry more, by which the name holds a file with these bytes and this access; or none
abbrev pub MakesFile : List ℕ → List ℕ → Access → Result Unit AllocError → List Entry → List Entry → Type 0
MakesFile name bytes access result log more = MatchResult result (λ done. (n : String Global) × (file : File) × (more ≡ log ++ (Put n file ∷ [])) × (string_bytes n ≡ name) × (file.bytes.items ≡ bytes) × (file.access ≡ access)) (λ e. more ≡ log)
