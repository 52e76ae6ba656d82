-- What the entries of a log do.
use Rattle.std.proofs.Common.{◌≡◌, ◌≢◌, ◌∙◌, ◌⊎◌, ◌++◌, ◌∷◌, [], ℕ, List, Bool, true, false, Option, None, Some, Result, Ok, Err, refl, sym, ap, inl, inr, subst, append-nil}
use Rattle.std.specs.Prelude.{◌&&◌, nat_eq, if◌then◌else◌, is_ok, String, string_bytes}
use Rattle.std.specs.Ordering.{int_eq}
use Rattle.std.specs.Str.{bytes_eq}
use Rattle.std.specs.Cmp.Lexicographic.{bytes_decides}
use Rattle.std.specs.declared.alloc.AllocError.{AllocError}
use Rattle.std.specs.declared.alloc.Global.{Global}
use Rattle.std.specs.declared.io.Error.{Error}
use Rattle.std.proofs.lemmas.Bool.{eqb-true}
use Rattle.std.proofs.lemmas.Bool.Decides.{Decides-int_eq}
use Rattle.std.proofs.lemmas.List.Sums.{fold-append}
use Rattle.std.proofs.lemmas.Option.{same_Some}
use Rattle.cedar_program.specs.Folders.{Alike, Creates, Names, Picture, PutsInPlace, Removes, Since, Spares, Stored, Untold, stored}
use Rattle.cedar_program.specs.Rights.{Given}
use Rattle.cedar_program.specs.declared.folder.folder.Access.{Access}
use Rattle.cedar_program.specs.declared.folder.folder.File.{File}
use Rattle.cedar_program.specs.declared.folder.folder.NotCreated.{NotCreated}
use Rattle.cedar_program.specs.declared.folder.folder.Version.{Version}
use Rattle.cedar_folder_tests.specs.Logs.{MakesFile, empty, picture_of, with_entry, with_name, with_names}
use Rattle.cedar_folder_tests.specs.declared.memory.Entry.{Entry}
use Rattle.cedar_folder_tests.specs.declared.memory.Entry.TheVariants.{Put, Removed, Renamed}

-- the picture after one more entry
pub one_more : (log : List Entry) (e : Entry) → picture_of (log ++ (e ∷ [])) ≡ with_entry (picture_of log) e
one_more log e = fold-append with_entry empty log (e ∷ [])

-- a name among names with one that may be another
at_name : (n m : List ℕ) (h : Option Stored) (s : Names) → n ≡ m → with_name n h s m ≡ h
at_name n m h s e = ap (λ b. if b then h else s m) ((bytes_decides n m).1 e)

by_test : (n m : List ℕ) (h : Option Stored) (s : Names) (b : Bool) → bytes_eq n m ≡ b → n ≢ m
    → (if b then h else s m) ≡ s m
by_test n m h s true e other = absurd (other ((bytes_decides n m).0 e))
by_test n m h s false e other = refl

elsewhere : (n m : List ℕ) (h : Option Stored) (s : Names) → n ≢ m → with_name n h s m ≡ s m
elsewhere n m h s other = by_test n m h s (bytes_eq n m) refl other

spared : (n : List ℕ) (h : Option Stored) (s : Names) → Spares n s (with_name n h s)
spared n h s m other = elsewhere n m h s (λ e. other (sym e))

one_moment : (p : Picture) (s : Names) (P : Names → Type 0) → P s → Since p (with_names p s) (Untold p P)
one_moment p s P h = (record { holds = s; report = p.report } ∷ [], refl, ((refl, h), tt))

no_moment : (p : Picture) (P : Names → Type 0) → Since p p (Untold p P)
no_moment p P = ([], sym (append-nil p.moments), tt)

module _ (p : Picture) where
  -- the picture in which the name holds this file
  abbrev pub holding : List ℕ → Stored → Picture
  holding name f = with_names p (with_name name (Some f) p.holds)

  pub created : (name : List ℕ) (f : Stored) (a : Access) → Given a f.access
      → Creates name f.bytes a (Ok tt) p (holding name f)
  created name f a given = record {
    ok = (f, at_name name name (Some f) p.holds refl, refl, given);
    err = tt;
    others = spared name (Some f) p.holds;
    moments = one_moment p (with_name name (Some f) p.holds) (Spares name p.holds) (spared name (Some f) p.holds);
    report = refl;
  }

  pub created_in_part : (name bytes : List ℕ) (f : Stored) (a : Access) (e : NotCreated) → e.is_left ≡ true
      → Creates name bytes a (Err e) p (holding name f)
  created_in_part name bytes f a e left = record {
    ok = tt;
    err = λ whole. let bad : true ≡ false = sym left ∙ whole in cc;
    others = spared name (Some f) p.holds;
    moments = one_moment p (with_name name (Some f) p.holds) (Spares name p.holds) (spared name (Some f) p.holds);
    report = refl;
  }

  pub not_created : (name bytes : List ℕ) (a : Access) (e : NotCreated) → Creates name bytes a (Err e) p p
  not_created name bytes a e = record {
    ok = tt;
    err = λ whole n. refl;
    others = λ n other. refl;
    moments = no_moment p (Spares name p.holds);
    report = refl;
  }

  pub removed : (name : List ℕ) → Removes name (Ok tt) p (with_names p (with_name name None p.holds))
  removed name = record {
    ok = at_name name name None p.holds refl;
    err = tt;
    others = spared name None p.holds;
    moments = one_moment p (with_name name None p.holds) (Spares name p.holds) (spared name None p.holds);
    report = refl;
  }

  pub not_removed : (name : List ℕ) (e : Error) → Removes name (Err e) p p
  not_removed name e = record {
    ok = tt;
    err = λ n. refl;
    others = λ n other. refl;
    moments = no_moment p (Spares name p.holds);
    report = refl;
  }

  -- the names after one was given to the file of another
  abbrev pub renamed : List ℕ → List ℕ → Names
  renamed from to = with_name to (p.holds from) (with_name from None p.holds)

  pub put : (from to : List ℕ) (f : Stored) → p.holds to ≡ Some f
      → PutsInPlace from to f.version (Ok tt) p (with_names p (renamed from to))
  put from to f old = record {
    ok = λ apart. (
      at_name to to (p.holds from) (with_name from None p.holds) refl,
      elsewhere to from (p.holds from) (with_name from None p.holds) (λ e. apart (sym e))
          ∙ at_name from from None p.holds refl,
    );
    was = λ h held. ap (λ z. z.version) (same_Some h f (sym held ∙ old));
    err = tt;
    others = λ n a b. elsewhere to n (p.holds from) (with_name from None p.holds) (λ e. b (sym e))
        ∙ elsewhere from n None p.holds (λ e. a (sym e));
    moments = one_moment p (renamed from to) (λ u. Alike p.holds u ⊎ Alike (renamed from to) u) (inr (λ n. refl));
    report = refl;
  }

  pub not_put : (from to : List ℕ) (v : Version) (e : Error) → PutsInPlace from to v (Err e) p p
  not_put from to v e = record {
    ok = λ differ. tt;
    was = λ h held. tt;
    err = λ n. refl;
    others = λ n a b. refl;
    moments = no_moment p (λ u. Alike p.holds u ⊎ Alike p.holds u);
    report = refl;
  }

-- ---- what the methods of a folder in memory do

pub made : (name bytes : List ℕ) (a : Access) (n : String Global) (f : File) (r : Result Unit AllocError)
    (log more : List Entry) → string_bytes n ≡ name → f.bytes.items ≡ bytes → f.access ≡ a
    → more ≡ (if is_ok r then log ++ (Put n f ∷ []) else log) → MakesFile name bytes a r log more
made name bytes a n f (Ok done) log more named are given is = (n, f, is, named, are, given)
made name bytes a n f (Err e) log more named are given is = is

-- what was added
pub added : (log old more : List Entry) (e : Entry) (r : Result Unit AllocError) (done : Unit) → r ≡ Ok done
    → old ≡ log → more ≡ (if is_ok r then old ++ (e ∷ []) else old) → more ≡ log ++ (e ∷ [])
added log old more e r done ok same is = is ∙ ap (λ z. if is_ok z then old ++ (e ∷ []) else old) ok
    ∙ ap (λ z. z ++ (e ∷ [])) same

module _ (log more : List Entry) where
  pub create_done : (name bytes : List ℕ) (a : Access) → MakesFile name bytes a (Ok tt) log more
      → Creates name bytes a (Ok tt) (picture_of log) (picture_of more)
  create_done name bytes a (n, f, is, named, are, given) =
      subst (λ q. Creates name bytes a (Ok tt) (picture_of log) q) (sym (ap picture_of is ∙ one_more log (Put n f)))
      (subst (λ z. Creates z bytes a (Ok tt) (picture_of log) (with_entry (picture_of log) (Put n f))) named
      (subst (λ z. Creates (string_bytes n) z a (Ok tt) (picture_of log) (with_entry (picture_of log) (Put n f))) are
      (created (picture_of log) (string_bytes n) (stored f) a (inl given))))

  pub create_left : (name bytes part : List ℕ) (a : Access) (r : Result Unit AllocError) (e : NotCreated)
      → e.is_left ≡ is_ok r → MakesFile name part a r log more
      → Creates name bytes a (Err e) (picture_of log) (picture_of more)
  create_left name bytes part a (Ok done) e left (n, f, is, named, are, given) =
      subst (λ q. Creates name bytes a (Err e) (picture_of log) q) (sym (ap picture_of is ∙ one_more log (Put n f)))
      (subst (λ z. Creates z bytes a (Err e) (picture_of log) (with_entry (picture_of log) (Put n f))) named
      (created_in_part (picture_of log) (string_bytes n) bytes (stored f) a e left))
  create_left name bytes part a (Err fault) e left same =
      subst (λ q. Creates name bytes a (Err e) (picture_of log) q) (sym (ap picture_of same))
      (not_created (picture_of log) name bytes a e)

  pub remove_done : (name : List ℕ) (n : String Global) → string_bytes n ≡ name
      → more ≡ log ++ (Removed n ∷ []) → Removes name (Ok tt) (picture_of log) (picture_of more)
  remove_done name n named is =
      subst (λ q. Removes name (Ok tt) (picture_of log) q) (sym (ap picture_of is ∙ one_more log (Removed n)))
      (subst (λ z. Removes z (Ok tt) (picture_of log) (with_entry (picture_of log) (Removed n))) named
      (removed (picture_of log) (string_bytes n)))

  pub replace_done : (from to : List ℕ) (v : Version) (n m : String Global) (f : Stored) → string_bytes n ≡ from
      → string_bytes m ≡ to → f.version ≡ v → (picture_of log).holds to ≡ Some f
      → more ≡ log ++ (Renamed n m ∷ [])
      → PutsInPlace from to v (Ok tt) (picture_of log) (picture_of more)
  replace_done from to v n m f named_from named_to same held is =
      subst (λ q. PutsInPlace from to v (Ok tt) (picture_of log) q)
      (sym (ap picture_of is ∙ one_more log (Renamed n m)))
      (subst (λ z. PutsInPlace z to v (Ok tt) (picture_of log) (with_entry (picture_of log) (Renamed n m))) named_from
      (subst (λ z. PutsInPlace (string_bytes n) z v (Ok tt) (picture_of log) (with_entry (picture_of log) (Renamed n m))) named_to
      (subst (λ z. PutsInPlace (string_bytes n) (string_bytes m) z (Ok tt) (picture_of log) (with_entry (picture_of log) (Renamed n m))) same
      (put (picture_of log) (string_bytes n) (string_bytes m) f (ap (picture_of log).holds named_to ∙ held)))))

-- ---- versions

both : (x y : Bool) → (x && y) ≡ true → (x ≡ true) × (y ≡ true)
both true y h = (refl, h)
both false y h = let bad : false ≡ true = h in cc

-- two versions are the same if each of their numbers is
same_numbers : (v w : Version) → v.device ≡ w.device → v.inode ≡ w.inode → v.size ≡ w.size
    → v.modified.0 ≡ w.modified.0 → v.modified.1 ≡ w.modified.1 → v.changed.0 ≡ w.changed.0
    → v.changed.1 ≡ w.changed.1 → v ≡ w
same_numbers v w device inode size modified modified_1 changed changed_1 =
    let same : ◌≡◌ {A = Version}
    (record { device = v.device; inode = v.inode; size = v.size; modified = record { 0 = v.modified.0; 1 = v.modified.1 }; changed = record { 0 = v.changed.0; 1 = v.changed.1 } })
    (record { device = w.device; inode = w.inode; size = w.size; modified = record { 0 = w.modified.0; 1 = w.modified.1 }; changed = record { 0 = w.changed.0; 1 = w.changed.1 } })
    = cc in same

-- the test of two versions
pub same_version : (v w : Version) → (nat_eq v.device w.device && (nat_eq v.inode w.inode && (nat_eq v.size w.size
    && ((int_eq v.modified.0 w.modified.0 && int_eq v.modified.1 w.modified.1)
    && (int_eq v.changed.0 w.changed.0 && int_eq v.changed.1 w.changed.1))))) ≡ true → v ≡ w
same_version v w h =
    let (device, h_1) = both _ _ h in
    let (inode, h_2) = both _ _ h_1 in
    let (size, h_3) = both _ _ h_2 in
    let (modified, changed) = both _ _ h_3 in
    let (seconds, nanoseconds) = both _ _ modified in
    let (changed_seconds, changed_nanoseconds) = both _ _ changed in
    same_numbers v w (eqb-true _ _ device) (eqb-true _ _ inode) (eqb-true _ _ size)
    ((Decides-int_eq _ _).0 seconds) ((Decides-int_eq _ _).0 nanoseconds)
    ((Decides-int_eq _ _).0 changed_seconds) ((Decides-int_eq _ _).0 changed_nanoseconds)
