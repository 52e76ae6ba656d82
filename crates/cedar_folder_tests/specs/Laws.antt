-- That the clauses of a folder can be met together.
use Rattle.std.specs.Prelude.{◌≡◌, ◌≢◌, ℕ, List, Some, Ok, Err}
use Rattle.std.specs.declared.io.Error.{Error}
use Rattle.cedar_program.specs.Folders.{Creates, Picture, PutsInPlace, Removes, Stored}
use Rattle.cedar_program.specs.declared.folder.folder.Access.{Access}
use Rattle.cedar_program.specs.declared.folder.folder.NotCreated.{NotCreated}

-- from a picture, each call leads to another one as its clause says, whether it succeeds or fails
pub record CallsCanEnd (p : Picture) : Type 0 where
  pub created : (name bytes : List ℕ) (a : Access) → (q : Picture) × Creates name bytes a (Ok tt) p q
  pub not_created : (name bytes : List ℕ) (a : Access) (e : NotCreated) → (q : Picture) × Creates name bytes a (Err e) p q
  pub put : (from to : List ℕ) (f g : Stored) → from ≢ to → p.holds from ≡ Some g → p.holds to ≡ Some f → (q : Picture) × PutsInPlace from to f.version (Ok tt) p q
  pub not_put : (from to : List ℕ) (f : Stored) (e : Error) → (q : Picture) × PutsInPlace from to f.version (Err e) p q
  pub removed : (name : List ℕ) → (q : Picture) × Removes name (Ok tt) p q
  pub not_removed : (name : List ℕ) (e : Error) → (q : Picture) × Removes name (Err e) p q

-- the same from every picture
abbrev pub CallsEnd : Type 0
CallsEnd = (p : Picture) → CallsCanEnd p
